-- Written by tools/lists.py from tools/operators.tsv.
use Rattle.std.proofs.Common.{arith}
use Rattle.wasm_decode_groups.proofs.Codes.{one_byte_block_type_02}
use Rattle.wasm_decode_groups.proofs.one_byte_operators.below_0x20_by.Goals as goal

pub arm-requires-in-2-to-4-clause-kinds : goal.arm-requires-in-2-to-4-clause-kinds
arm-requires-in-2-to-4-clause-kinds g c = one_byte_block_type_02 c.args.code (omega (arith, c.in-2-to-4)) (omega (arith, c.in-2-to-4))
