use Rattle.std.proofs.Common.{arith}
use Rattle.wasm_below.proofs.NumbersAt.{two_bytes_at}
use Rattle.wasm_below.proofs.long_numbers.two_bytes.Goals as goal

pub returns-clause-of_32 : goal.returns-clause-of_32
returns-clause-of_32 c = two_bytes_at 32 c.args.buffer.now c.args.start _ (omega arith) (omega arith) (omega arith) (omega arith) (omega arith) (omega arith)

pub returns-clause-of_64 : goal.returns-clause-of_64
returns-clause-of_64 c = two_bytes_at 64 c.args.buffer.now c.args.start _ (omega arith) (omega arith) (omega arith) (omega arith) (omega arith) (omega arith)
