-- Written by tools/lists.py from tools/operators.tsv.
use Rattle.std.proofs.Common.{refl, arith}
use Rattle.wasm_decode_groups.proofs.Codes.{misc_without_immediates_00, misc_without_immediates_13, misc_unsigned_0f, misc_unknown}
use Rattle.wasm_decode_groups.proofs.misc_operators.misc_by.Goals as goal

pub arm-requires-in-0-to-7-clause-kinds : goal.arm-requires-in-0-to-7-clause-kinds
arm-requires-in-0-to-7-clause-kinds g c = misc_without_immediates_00 c.args.code (omega (arith, c.in-0-to-7)) (omega (arith, c.in-0-to-7))

pub arm-requires-in-19-to-22-clause-kinds : goal.arm-requires-in-19-to-22-clause-kinds
arm-requires-in-19-to-22-clause-kinds g c = misc_without_immediates_13 c.args.code (omega (arith, c.in-19-to-22)) (omega (arith, c.in-19-to-22))

pub arm-requires-in-15-to-18-clause-kinds : goal.arm-requires-in-15-to-18-clause-kinds
arm-requires-in-15-to-18-clause-kinds g c = misc_unsigned_0f c.args.code (omega (arith, c.in-15-to-18)) (omega (arith, c.in-15-to-18))

pub unknown_subopcode-requires-clause-unknown : goal.unknown_subopcode-requires-clause-unknown
unknown_subopcode-requires-clause-unknown g c = misc_unknown c.args.code (λ h. grind (arith, h))

pub returns-in_default : goal.returns-in_default
returns-in_default g c k = (refl, c.unknown_subopcode.ensures k)
