use Rattle.std.proofs.Common.{length}
use Rattle.wasm_operators.specs.below.Source.{rest}
use Rattle.wasm_operators.specs.imm.BranchTables.{EncodesBranchTable}
use Rattle.wasm_bench.specs.Sums.{table_counts}
use Rattle.wasm_bench.proofs.Reading.{SumSoFar}
use Rattle.wasm_bench.proofs.wasm_bench_br_table.Given as goal

abbrev pub invariant-loop-reader : goal.invariant-loop-reader
invariant-loop-reader l = SumSoFar EncodesBranchTable table_counts l.initial.reader l.reader l.sum

abbrev pub decreases-loop-reader : goal.decreases-loop-reader
decreases-loop-reader l = length (rest l.reader)
