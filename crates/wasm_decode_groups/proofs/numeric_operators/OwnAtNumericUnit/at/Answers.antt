-- Written by tools/lists.py from tools/operators.tsv.
use Rattle.std.proofs.Common.{[], None, refl, subst, arith, ◌≡◌}
use Rattle.wasm_instr.specs.declared.operator.Operator.TheVariants as operator
use Rattle.wasm_instr_ops.specs.declared.numeric.NumericOperator.TheVariants as numeric
use Rattle.wasm_decode_opcodes.specs.Decoding.{VisitsRow}
use Rattle.wasm_decode_groups.proofs.numeric_operators.OwnAtNumericUnit.at.Goals as goal

pub returns-in_default : goal.returns-in_default
returns-in_default g c =
    let same : 0xc4 ≡ c.args.code = omega (arith, c.requires.group.0, c.requires.group.1) in
    subst (λ k. VisitsRow g.V.Visitor.visits None k ([]) c.args.v.now c.visit_i64_extend32_s.result c.visit_i64_extend32_s.new.self) same (operator.Numeric (numeric.I64Extend32S), refl, refl, refl, c.visit_i64_extend32_s.ensures)
