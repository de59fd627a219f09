use Rattle.std.proofs.Common.{◌+◌, ◌%◌, ◌^◌, ap}
use Rattle.wasm_operators.specs.below.Source.{rest}
use Rattle.wasm_below.proofs.Blocks.{refused_now}
use Rattle.wasm_bench.proofs.Reading.{one_more, summed, none_at_end, filled}
use Rattle.wasm_operators.specs.imm.BlockTypes.{EncodesBlockType}
use Rattle.wasm_imm.proofs.BlockTypes.{block_prefix_code, block_empty}
use Rattle.wasm_bench.specs.Sums.{block_counts}
use Rattle.wasm_bench.proofs.wasm_bench_block.Goals as goal

pub loop-reader-preserved : goal.loop-reader-preserved
loop-reader-preserved c =
    one_more EncodesBlockType block_counts c.new-reader.result c.loop-reader.reader c.read.new.reader c.loop-reader.sum _ c.in-Ok.ty c.loop-reader.invariant
    c.in-Ok.ensures (ap (λ n. (c.loop-reader.sum + n) % 2 ^ 64) c.block_number-sum.ensures)

pub returns-in-Err : goal.returns-in-Err
returns-in-Err c =
    summed EncodesBlockType block_counts block_prefix_code (filled EncodesBlockType block_empty) c.args.bytes.now c.new-reader.result c.loop-reader.reader
    c.loop-reader.sum (ap rest c.new-reader.ensures) c.loop-reader.invariant
    (refused_now EncodesBlockType c.in-Err.field-0 c.loop-reader.reader c.in-Err.ensures.1)

pub returns : goal.returns
returns c =
    summed EncodesBlockType block_counts block_prefix_code (filled EncodesBlockType block_empty) c.args.bytes.now c.new-reader.result c.loop-reader.reader
    c.loop-reader.sum (ap rest c.new-reader.ensures) c.loop-reader.invariant
    (none_at_end EncodesBlockType (filled EncodesBlockType block_empty) (rest c.loop-reader.reader) (c.eof.ensures.0 c.loop-reader-test.false))
