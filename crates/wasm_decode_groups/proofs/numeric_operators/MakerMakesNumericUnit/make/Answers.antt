-- Written by tools/lists.py from tools/operators.tsv.
use Rattle.std.proofs.Common.{[], None, refl, subst, arith, ◌≡◌}
use Rattle.wasm_instr.specs.declared.operator.Operator.TheVariants as operator
use Rattle.wasm_instr_ops.specs.declared.numeric.NumericOperator.TheVariants as numeric
use Rattle.wasm_decode_groups.specs.Arms.{IsRow}
use Rattle.wasm_decode_groups.proofs.numeric_operators.MakerMakesNumericUnit.make.Goals as goal

pub returns-in_default : goal.returns-in_default
returns-in_default c =
    let same : 0xc4 ≡ c.args.code = omega (arith, c.requires.group.0, c.requires.group.1) in
    subst (λ k. IsRow None k ([]) (operator.Numeric (numeric.I64Extend32S))) same (refl, refl, refl)
