use Rattle.std.proofs.Common.{length}
use Rattle.wasm_operators.specs.below.Source.{rest}
use Rattle.wasm_operators.specs.below.Number.{EncodesSigned}
use Rattle.std.specs.Int.{w32, cast_unsigned}
use Rattle.wasm_bench.proofs.Reading.{SumSoFar}
use Rattle.wasm_bench.proofs.wasm_bench_i32.Given as goal

abbrev pub invariant-loop-reader : goal.invariant-loop-reader
invariant-loop-reader l = SumSoFar (EncodesSigned 32) (cast_unsigned w32) l.initial.reader l.reader l.sum

abbrev pub decreases-loop-reader : goal.decreases-loop-reader
decreases-loop-reader l = length (rest l.reader)
