use Rattle.std.proofs.Common.{arith}
use Rattle.wasm_encode_immediates.proofs.MemoryArguments.{argument_written, argument_fails}
use Rattle.wasm_encode_immediates.proofs.memory_argument.write_memory_argument.Goals as goal

pub returns-in-Ok-clause-written : goal.returns-in-Ok-clause-written
returns-in-Ok-clause-written c =
    (argument_written c.args.features c.args.kind c.args.max_align c.args.value _ _ c.in-Ok.ensures.writable c.write_parts.ensures.bytes, c.write_parts.ensures.capacity)

pub returns-in-Err-clause-written : goal.returns-in-Err-clause-written
returns-in-Err-clause-written c =
    (argument_fails c.args.features c.args.kind c.args.max_align c.args.value c.in-Err.why _ c.in-Err.ensures.unwritable, omega arith)
