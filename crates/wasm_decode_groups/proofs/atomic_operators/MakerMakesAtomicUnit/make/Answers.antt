-- Written by tools/lists.py from tools/operators.tsv.
use Rattle.std.proofs.Common.{[], Some, refl, subst, arith, ◌≡◌}
use Rattle.wasm_instr.specs.declared.operator.Operator.TheVariants as operator
use Rattle.wasm_instr_ops.specs.declared.atomic.AtomicOperator.TheVariants as atomic
use Rattle.wasm_decode_groups.specs.Arms.{IsRow}
use Rattle.wasm_decode_groups.proofs.Codes.{atomic_without_immediates_codes}
use Rattle.wasm_decode_groups.proofs.atomic_operators.MakerMakesAtomicUnit.make.Goals as goal

pub returns-in_default : goal.returns-in_default
returns-in_default c =
    let h = atomic_without_immediates_codes c.args.code c.requires.kinds in
    let same : 0x72 ≡ c.args.code = first_of (omega (arith, h), grind (arith, h)) in
    subst (λ k. IsRow (Some 0xfe) k ([]) (operator.Atomic (atomic.RefI31Shared))) same (refl, refl, refl)
