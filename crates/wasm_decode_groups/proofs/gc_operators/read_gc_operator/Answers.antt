-- Written by tools/lists.py from tools/operators.tsv.
use Rattle.std.proofs.Common.{refl, arith}
use Rattle.wasm_decode_groups.proofs.Codes.{gc_unsigned_00, gc_unsigned_06, gc_unsigned_0b, gc_unsigned_20, gc_unsigned_unsigned_02, gc_unsigned_unsigned_08, gc_unsigned_unsigned_11, gc_without_immediates_1a, gc_heap_type_14, gc_heap_type_23, gc_cast_18, gc_cast_25, gc_unknown}
use Rattle.wasm_decode_groups.proofs.gc_operators.read_gc_operator.Goals as goal

pub read_arm-requires-in-0-to-1-clause-kinds : goal.read_arm-requires-in-0-to-1-clause-kinds
read_arm-requires-in-0-to-1-clause-kinds c = gc_unsigned_00 c.args.code (omega (arith, c.in-0-to-1)) (omega (arith, c.in-0-to-1))

pub read_arm-requires-in-6-to-7-clause-kinds : goal.read_arm-requires-in-6-to-7-clause-kinds
read_arm-requires-in-6-to-7-clause-kinds c = gc_unsigned_06 c.args.code (omega (arith, c.in-6-to-7)) (omega (arith, c.in-6-to-7))

pub read_arm-requires-in-11-to-14-clause-kinds : goal.read_arm-requires-in-11-to-14-clause-kinds
read_arm-requires-in-11-to-14-clause-kinds c = gc_unsigned_0b c.args.code (omega (arith, c.in-11-to-14)) (omega (arith, c.in-11-to-14))

pub read_arm-requires-in-32-to-34-clause-kinds : goal.read_arm-requires-in-32-to-34-clause-kinds
read_arm-requires-in-32-to-34-clause-kinds c = gc_unsigned_20 c.args.code (omega (arith, c.in-32-to-34)) (omega (arith, c.in-32-to-34))

pub read_arm-requires-in-2-to-5-clause-kinds : goal.read_arm-requires-in-2-to-5-clause-kinds
read_arm-requires-in-2-to-5-clause-kinds c = gc_unsigned_unsigned_02 c.args.code (omega (arith, c.in-2-to-5)) (omega (arith, c.in-2-to-5))

pub read_arm-requires-in-8-to-10-clause-kinds : goal.read_arm-requires-in-8-to-10-clause-kinds
read_arm-requires-in-8-to-10-clause-kinds c = gc_unsigned_unsigned_08 c.args.code (omega (arith, c.in-8-to-10)) (omega (arith, c.in-8-to-10))

pub read_arm-requires-in-17-to-19-clause-kinds : goal.read_arm-requires-in-17-to-19-clause-kinds
read_arm-requires-in-17-to-19-clause-kinds c = gc_unsigned_unsigned_11 c.args.code (omega (arith, c.in-17-to-19)) (omega (arith, c.in-17-to-19))

pub read_arm-requires-in-26-to-30-clause-kinds : goal.read_arm-requires-in-26-to-30-clause-kinds
read_arm-requires-in-26-to-30-clause-kinds c = gc_without_immediates_1a c.args.code (omega (arith, c.in-26-to-30)) (omega (arith, c.in-26-to-30))

pub read_arm-requires-in-20-to-23-clause-kinds : goal.read_arm-requires-in-20-to-23-clause-kinds
read_arm-requires-in-20-to-23-clause-kinds c = gc_heap_type_14 c.args.code (omega (arith, c.in-20-to-23)) (omega (arith, c.in-20-to-23))

pub read_arm-requires-in-35-to-36-clause-kinds : goal.read_arm-requires-in-35-to-36-clause-kinds
read_arm-requires-in-35-to-36-clause-kinds c = gc_heap_type_23 c.args.code (omega (arith, c.in-35-to-36)) (omega (arith, c.in-35-to-36))

pub read_arm-requires-in-24-to-25-clause-kinds : goal.read_arm-requires-in-24-to-25-clause-kinds
read_arm-requires-in-24-to-25-clause-kinds c = gc_cast_18 c.args.code (omega (arith, c.in-24-to-25)) (omega (arith, c.in-24-to-25))

pub read_arm-requires-in-37-to-38-clause-kinds : goal.read_arm-requires-in-37-to-38-clause-kinds
read_arm-requires-in-37-to-38-clause-kinds c = gc_cast_25 c.args.code (omega (arith, c.in-37-to-38)) (omega (arith, c.in-37-to-38))

pub unknown_subopcode-requires-clause-unknown : goal.unknown_subopcode-requires-clause-unknown
unknown_subopcode-requires-clause-unknown c = gc_unknown c.args.code (λ h. grind (arith, h))

pub returns-in_default : goal.returns-in_default
returns-in_default c k = (refl, c.unknown_subopcode.ensures k)
