use Rattle.std.proofs.Common.{length}
use Rattle.wasm_operators.specs.below.Source.{rest}
use Rattle.wasm_operators.specs.below.Features.{all_features}
use Rattle.wasm_operators.specs.imm.declared.memory_argument.MemArgKind.TheVariants as kind
use Rattle.wasm_operators.specs.imm.MemoryArgument.{EncodesMemArg}
use Rattle.wasm_bench.specs.Sums.{argument_counts}
use Rattle.wasm_bench.proofs.Reading.{SumSoFar}
use Rattle.wasm_bench.proofs.wasm_bench_memarg.Given as goal

abbrev pub invariant-loop-reader : goal.invariant-loop-reader
invariant-loop-reader l = SumSoFar (EncodesMemArg all_features kind.Plain 2) argument_counts l.initial.reader l.reader l.sum

abbrev pub decreases-loop-reader : goal.decreases-loop-reader
decreases-loop-reader l = length (rest l.reader)
