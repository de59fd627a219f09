use Rattle.std.proofs.Common.{◌≡◌, ℕ, ◌+◌, ◌%◌, ◌^◌, ◌<◌, ◌++◌, List, ap, ◌∙◌, length, length-append, arith}
use Rattle.wasm_operators.specs.below.Source.{rest}
use Rattle.wasm_below.proofs.Blocks.{refused_now}
use Rattle.wasm_bench.proofs.Reading.{one_more, summed, none_at_end}
use Rattle.wasm_below.proofs.Steps.{unsigned_some}
use Rattle.wasm_operators.specs.imm.BranchTables.{BranchTable, EncodesBranchTable}
use Rattle.wasm_imm.proofs.BranchTables.{table_prefix_code}
use Rattle.wasm_bench.specs.Sums.{table_counts}
use Rattle.wasm_bench.proofs.wasm_bench_br_table.Goals as goal

table_some : (text : List ℕ) (t : BranchTable) → EncodesBranchTable text t → 0 < length text
table_some text t (count, default, e, size, targets, last) =
    omega (arith, unsigned_some 32 count t.count size.0, ap length e ∙ length-append count (t.targets ++ default))

pub loop-reader-preserved : goal.loop-reader-preserved
loop-reader-preserved c =
    let counts : c.from.result + c.from-in-Ok.result ≡ c.in-Ok.table.count + c.in-Ok.table.default =
    omega (arith, c.from.ensures, c.len.ensures, c.from-in-Ok.ensures, c.default.ensures) in
    one_more EncodesBranchTable table_counts c.new-reader.result c.loop-reader.reader c.read.new.reader c.loop-reader.sum _ c.in-Ok.table
    c.loop-reader.invariant c.in-Ok.ensures (ap (λ n. (c.loop-reader.sum + n) % 2 ^ 64) counts)

pub returns-in-Err : goal.returns-in-Err
returns-in-Err c =
    summed EncodesBranchTable table_counts table_prefix_code table_some c.args.bytes.now c.new-reader.result c.loop-reader.reader c.loop-reader.sum
    (ap rest c.new-reader.ensures) c.loop-reader.invariant (refused_now EncodesBranchTable c.in-Err.field-0 c.loop-reader.reader c.in-Err.ensures.1)

pub returns : goal.returns
returns c =
    summed EncodesBranchTable table_counts table_prefix_code table_some c.args.bytes.now c.new-reader.result c.loop-reader.reader c.loop-reader.sum
    (ap rest c.new-reader.ensures) c.loop-reader.invariant
    (none_at_end EncodesBranchTable table_some (rest c.loop-reader.reader) (c.eof.ensures.0 c.loop-reader-test.false))
