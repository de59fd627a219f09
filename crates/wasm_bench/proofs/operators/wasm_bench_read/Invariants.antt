use Rattle.std.proofs.Common.{length}
use Rattle.wasm_operators.specs.below.Source.{rest}
use Rattle.wasm_bench.proofs.operators.wasm_bench_read.Given as goal

abbrev pub decreases-loop-operators : goal.decreases-loop-operators
decreases-loop-operators l = length (rest l.operators.reader)
