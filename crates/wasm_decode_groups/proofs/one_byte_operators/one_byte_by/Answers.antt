-- Written by tools/lists.py from tools/operators.tsv.
use Rattle.std.proofs.Common.{[], None, sym, subst, ap, arith, ◌∷◌}
use Rattle.wasm_imm.specs.declared.memory_argument.MemArgKind.TheVariants as kind
use Rattle.wasm_imm.specs.Immediate.{is_memory_argument}
use Rattle.wasm_decode_opcodes.specs.Entry.{entry_kinds}
use Rattle.wasm_decode_groups.specs.Arms.{HasArm}
use Rattle.wasm_decode_groups.proofs.Codes.{one_byte_unsigned_20, one_byte_memory_28}
use Rattle.wasm_decode_groups.proofs.one_byte_operators.one_byte_by.Goals as goal

pub arm-requires-clause-kinds : goal.arm-requires-clause-kinds
arm-requires-clause-kinds g c = one_byte_unsigned_20 c.args.code (omega (arith, c.in-32-to-38)) (omega (arith, c.in-32-to-38))

pub align_of_memory-requires : goal.align_of_memory-requires
align_of_memory-requires g c = ap entry_kinds (one_byte_memory_28 c.args.code (omega (arith, c.in-40-to-62)) (omega (arith, c.in-40-to-62))).0

pub arm-requires-in-40-to-62-clause-kinds : goal.arm-requires-in-40-to-62-clause-kinds
arm-requires-in-40-to-62-clause-kinds g c = subst (λ z. HasArm None c.args.code (is_memory_argument kind.Plain z ∷ []) z) (sym c.align_of_memory.ensures) (one_byte_memory_28 c.args.code (omega (arith, c.in-40-to-62)) (omega (arith, c.in-40-to-62)))
