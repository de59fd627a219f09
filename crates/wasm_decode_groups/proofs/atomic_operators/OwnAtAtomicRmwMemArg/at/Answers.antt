-- Written by tools/lists.py from tools/operators.tsv.
use Rattle.std.proofs.Common.{[], Some, refl, subst, arith, ◌≡◌, ◌∷◌}
use Rattle.wasm_imm.specs.declared.memory_argument.MemArgKind.TheVariants as kind
use Rattle.wasm_instr.specs.declared.operator.Operator.TheVariants as operator
use Rattle.wasm_instr_ops.specs.declared.atomic.AtomicOperator.TheVariants as atomic
use Rattle.wasm_imm.specs.Immediate.{memory_argument}
use Rattle.wasm_decode_opcodes.specs.Decoding.{VisitsRow}
use Rattle.wasm_decode_opcodes.specs.Entries.{align_at}
use Rattle.wasm_decode_groups.proofs.Codes.{atomic_memory_rmw_codes}
use Rattle.wasm_decode_groups.proofs.atomic_operators.OwnAtAtomicRmwMemArg.at.Goals as goal

pub returns-in_default : goal.returns-in_default
returns-in_default g c =
    let h = atomic_memory_rmw_codes c.args.code c.requires.kinds in
    let same : 0x4e ≡ c.args.code = first_of (omega (arith, h), grind (arith, h)) in
    subst (λ k. VisitsRow g.V.Visitor.visits (Some 0xfe) k (memory_argument kind.Rmw (align_at (Some 0xfe) k) c.args.it.0 ∷ []) c.args.v.now c.visit_i64_atomic_rmw32_cmpxchg_u.result c.visit_i64_atomic_rmw32_cmpxchg_u.new.self) same (operator.Atomic (atomic.I64AtomicRmw32CmpxchgU (c.args.it.0)), refl, refl, refl, c.visit_i64_atomic_rmw32_cmpxchg_u.ensures)
