-- Written by tools/lists.py from tools/operators.tsv.
use Rattle.std.proofs.Common.{[], None, refl, sym, subst, ap, arith, ◌∷◌}
use Rattle.wasm_imm.specs.declared.memory_argument.MemArgKind.TheVariants as kind
use Rattle.wasm_imm.specs.Immediate.{is_memory_argument}
use Rattle.wasm_decode_opcodes.specs.Entry.{entry_kinds}
use Rattle.wasm_decode_groups.specs.Arms.{HasArm}
use Rattle.wasm_decode_groups.proofs.Codes.{one_byte_without_immediates_00, one_byte_without_immediates_0a, one_byte_without_immediates_1a, one_byte_without_immediates_d3, one_byte_block_type_02, one_byte_unsigned_08, one_byte_unsigned_0c, one_byte_unsigned_14, one_byte_unsigned_20, one_byte_unsigned_d5, one_byte_memory_28, one_byte_memory_index_3f, one_byte_unknown}
use Rattle.wasm_decode_groups.proofs.one_byte_operators.any_one_byte_by.Goals as goal

pub arm-requires-in-0-to-1-clause-kinds : goal.arm-requires-in-0-to-1-clause-kinds
arm-requires-in-0-to-1-clause-kinds g c = one_byte_without_immediates_00 c.args.code (omega (arith, c.in-0-to-1)) (omega (arith, c.in-0-to-1))

pub arm-requires-in-10-to-11-clause-kinds : goal.arm-requires-in-10-to-11-clause-kinds
arm-requires-in-10-to-11-clause-kinds g c = one_byte_without_immediates_0a c.args.code (omega (arith, c.in-10-to-11)) (omega (arith, c.in-10-to-11))

pub arm-requires-in-26-to-27-clause-kinds : goal.arm-requires-in-26-to-27-clause-kinds
arm-requires-in-26-to-27-clause-kinds g c = one_byte_without_immediates_1a c.args.code (omega (arith, c.in-26-to-27)) (omega (arith, c.in-26-to-27))

pub arm-requires-in-211-to-212-clause-kinds : goal.arm-requires-in-211-to-212-clause-kinds
arm-requires-in-211-to-212-clause-kinds g c = one_byte_without_immediates_d3 c.args.code (omega (arith, c.in-211-to-212)) (omega (arith, c.in-211-to-212))

pub arm-requires-in-2-to-4-clause-kinds : goal.arm-requires-in-2-to-4-clause-kinds
arm-requires-in-2-to-4-clause-kinds g c = one_byte_block_type_02 c.args.code (omega (arith, c.in-2-to-4)) (omega (arith, c.in-2-to-4))

pub arm-requires-in-8-to-9-clause-kinds : goal.arm-requires-in-8-to-9-clause-kinds
arm-requires-in-8-to-9-clause-kinds g c = one_byte_unsigned_08 c.args.code (omega (arith, c.in-8-to-9)) (omega (arith, c.in-8-to-9))

pub arm-requires-in-12-to-13-clause-kinds : goal.arm-requires-in-12-to-13-clause-kinds
arm-requires-in-12-to-13-clause-kinds g c = one_byte_unsigned_0c c.args.code (omega (arith, c.in-12-to-13)) (omega (arith, c.in-12-to-13))

pub arm-requires-in-20-to-21-clause-kinds : goal.arm-requires-in-20-to-21-clause-kinds
arm-requires-in-20-to-21-clause-kinds g c = one_byte_unsigned_14 c.args.code (omega (arith, c.in-20-to-21)) (omega (arith, c.in-20-to-21))

pub arm-requires-in-32-to-38-clause-kinds : goal.arm-requires-in-32-to-38-clause-kinds
arm-requires-in-32-to-38-clause-kinds g c = one_byte_unsigned_20 c.args.code (omega (arith, c.in-32-to-38)) (omega (arith, c.in-32-to-38))

pub arm-requires-in-213-to-214-clause-kinds : goal.arm-requires-in-213-to-214-clause-kinds
arm-requires-in-213-to-214-clause-kinds g c = one_byte_unsigned_d5 c.args.code (omega (arith, c.in-213-to-214)) (omega (arith, c.in-213-to-214))

pub align_of_memory-requires : goal.align_of_memory-requires
align_of_memory-requires g c = ap entry_kinds (one_byte_memory_28 c.args.code (omega (arith, c.in-40-to-62)) (omega (arith, c.in-40-to-62))).0

pub arm-requires-in-40-to-62-clause-kinds : goal.arm-requires-in-40-to-62-clause-kinds
arm-requires-in-40-to-62-clause-kinds g c = subst (λ z. HasArm None c.args.code (is_memory_argument kind.Plain z ∷ []) z) (sym c.align_of_memory.ensures) (one_byte_memory_28 c.args.code (omega (arith, c.in-40-to-62)) (omega (arith, c.in-40-to-62)))

pub arm-requires-in-63-to-64-clause-kinds : goal.arm-requires-in-63-to-64-clause-kinds
arm-requires-in-63-to-64-clause-kinds g c = one_byte_memory_index_3f c.args.code (omega (arith, c.in-63-to-64)) (omega (arith, c.in-63-to-64))

pub unknown_opcode-requires-clause-unknown : goal.unknown_opcode-requires-clause-unknown
unknown_opcode-requires-clause-unknown g c = one_byte_unknown c.args.code c.requires.apart.apart (λ h. grind (arith, h, c.requires.apart.table, c.requires.apart.numeric))

pub returns-in_default : goal.returns-in_default
returns-in_default g c = (refl, c.unknown_opcode.ensures c.args.frame)
