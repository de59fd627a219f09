-- Written by tools/lists.py from tools/operators.tsv.
use Rattle.std.proofs.Common.{[], Some, refl, subst, arith, ◌≡◌, ◌∷◌}
use Rattle.wasm_instr.specs.declared.operator.Operator.TheVariants as operator
use Rattle.wasm_instr_ops.specs.declared.atomic.AtomicOperator.TheVariants as atomic
use Rattle.wasm_imm.specs.Immediate.{unsigned_32, order}
use Rattle.wasm_decode_groups.specs.Arms.{IsRow}
use Rattle.wasm_decode_groups.proofs.Codes.{atomic_ordered_unsigned_unsigned_codes}
use Rattle.wasm_decode_groups.proofs.atomic_operators.MakerMakesAtomicTuple2OrderingTuple2U32U32.make.Goals as goal

pub returns-in_default : goal.returns-in_default
returns-in_default c =
    let h = atomic_ordered_unsigned_unsigned_codes c.args.code c.requires.kinds in
    let same : 0x66 ≡ c.args.code = first_of (omega (arith, h), grind (arith, h)) in
    subst (λ k. IsRow (Some 0xfe) k (order c.args.it.0 ∷ unsigned_32 c.args.it.1.0 ∷ unsigned_32 c.args.it.1.1 ∷ []) (operator.Atomic (atomic.StructAtomicRmwCmpxchg (c.args.it.0) (c.args.it.1.0) (c.args.it.1.1)))) same (refl, refl, refl)
