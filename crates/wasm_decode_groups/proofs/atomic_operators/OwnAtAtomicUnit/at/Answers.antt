-- Written by tools/lists.py from tools/operators.tsv.
use Rattle.std.proofs.Common.{[], Some, refl, subst, arith, ◌≡◌}
use Rattle.wasm_instr.specs.declared.operator.Operator.TheVariants as operator
use Rattle.wasm_instr_ops.specs.declared.atomic.AtomicOperator.TheVariants as atomic
use Rattle.wasm_decode_opcodes.specs.Decoding.{VisitsRow}
use Rattle.wasm_decode_groups.proofs.Codes.{atomic_without_immediates_codes}
use Rattle.wasm_decode_groups.proofs.atomic_operators.OwnAtAtomicUnit.at.Goals as goal

pub returns-in_default : goal.returns-in_default
returns-in_default g c =
    let h = atomic_without_immediates_codes c.args.code c.requires.kinds in
    let same : 0x72 ≡ c.args.code = first_of (omega (arith, h), grind (arith, h)) in
    subst (λ k. VisitsRow g.V.Visitor.visits (Some 0xfe) k ([]) c.args.v.now c.visit_ref_i31_shared.result c.visit_ref_i31_shared.new.self) same (operator.Atomic (atomic.RefI31Shared), refl, refl, refl, c.visit_ref_i31_shared.ensures)
