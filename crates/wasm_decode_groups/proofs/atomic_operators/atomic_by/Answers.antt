-- Written by tools/lists.py from tools/operators.tsv.
use Rattle.std.proofs.Common.{[], Some, refl, sym, subst, ap, arith, ◌∷◌}
use Rattle.wasm_imm.specs.declared.memory_argument.MemArgKind.TheVariants as kind
use Rattle.wasm_imm.specs.Immediate.{is_memory_argument}
use Rattle.wasm_decode_opcodes.specs.Entry.{entry_kinds}
use Rattle.wasm_decode_groups.specs.Arms.{HasArm}
use Rattle.wasm_decode_groups.proofs.Codes.{atomic_memory_00, atomic_memory_op_10, atomic_memory_rmw_1e, atomic_ordered_unsigned_4f, atomic_ordered_unsigned_67, atomic_ordered_unsigned_unsigned_5c, atomic_unknown}
use Rattle.wasm_decode_groups.proofs.atomic_operators.atomic_by.Goals as goal

pub align_of_memory-requires : goal.align_of_memory-requires
align_of_memory-requires g c = ap entry_kinds (atomic_memory_00 c.args.code (omega (arith, c.in-0-to-2)) (omega (arith, c.in-0-to-2))).0

pub arm-requires-in-0-to-2-clause-kinds : goal.arm-requires-in-0-to-2-clause-kinds
arm-requires-in-0-to-2-clause-kinds g c = subst (λ z. HasArm (Some 0xfe) c.args.code (is_memory_argument kind.Plain z ∷ []) z) (sym c.align_of_memory.ensures) (atomic_memory_00 c.args.code (omega (arith, c.in-0-to-2)) (omega (arith, c.in-0-to-2)))

pub align_of_memory_op-requires : goal.align_of_memory_op-requires
align_of_memory_op-requires g c = ap entry_kinds (atomic_memory_op_10 c.args.code (omega (arith, c.in-16-to-29)) (omega (arith, c.in-16-to-29))).0

pub arm-requires-in-16-to-29-clause-kinds : goal.arm-requires-in-16-to-29-clause-kinds
arm-requires-in-16-to-29-clause-kinds g c = subst (λ z. HasArm (Some 0xfe) c.args.code (is_memory_argument kind.Op z ∷ []) z) (sym c.align_of_memory_op.ensures) (atomic_memory_op_10 c.args.code (omega (arith, c.in-16-to-29)) (omega (arith, c.in-16-to-29)))

pub align_of_memory_rmw-requires : goal.align_of_memory_rmw-requires
align_of_memory_rmw-requires g c = ap entry_kinds (atomic_memory_rmw_1e c.args.code (omega (arith, c.in-30-to-78)) (omega (arith, c.in-30-to-78))).0

pub arm-requires-in-30-to-78-clause-kinds : goal.arm-requires-in-30-to-78-clause-kinds
arm-requires-in-30-to-78-clause-kinds g c = subst (λ z. HasArm (Some 0xfe) c.args.code (is_memory_argument kind.Rmw z ∷ []) z) (sym c.align_of_memory_rmw.ensures) (atomic_memory_rmw_1e c.args.code (omega (arith, c.in-30-to-78)) (omega (arith, c.in-30-to-78)))

pub arm-requires-in-79-to-91-clause-kinds : goal.arm-requires-in-79-to-91-clause-kinds
arm-requires-in-79-to-91-clause-kinds g c = atomic_ordered_unsigned_4f c.args.code (omega (arith, c.in-79-to-91)) (omega (arith, c.in-79-to-91))

pub arm-requires-in-103-to-113-clause-kinds : goal.arm-requires-in-103-to-113-clause-kinds
arm-requires-in-103-to-113-clause-kinds g c = atomic_ordered_unsigned_67 c.args.code (omega (arith, c.in-103-to-113)) (omega (arith, c.in-103-to-113))

pub arm-requires-in-92-to-102-clause-kinds : goal.arm-requires-in-92-to-102-clause-kinds
arm-requires-in-92-to-102-clause-kinds g c = atomic_ordered_unsigned_unsigned_5c c.args.code (omega (arith, c.in-92-to-102)) (omega (arith, c.in-92-to-102))

pub unknown_subopcode-requires-clause-unknown : goal.unknown_subopcode-requires-clause-unknown
unknown_subopcode-requires-clause-unknown g c = atomic_unknown c.args.code (λ h. grind (arith, h))

pub returns-in_default : goal.returns-in_default
returns-in_default g c k = (refl, c.unknown_subopcode.ensures k)
