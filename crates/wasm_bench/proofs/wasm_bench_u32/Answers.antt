use Rattle.std.proofs.Common.{◌+◌, ◌%◌, ◌^◌, ap}
use Rattle.wasm_operators.specs.below.Source.{rest}
use Rattle.wasm_below.proofs.Blocks.{refused_now}
use Rattle.wasm_bench.proofs.Reading.{one_more, summed, none_at_end}
use Rattle.wasm_operators.specs.below.Number.{EncodesUnsigned}
use Rattle.wasm_below.proofs.Steps.{number_prefix_code, unsigned_some}
use Rattle.wasm_bench.specs.Sums.{itself}
use Rattle.wasm_bench.proofs.wasm_bench_u32.Goals as goal

pub loop-reader-preserved : goal.loop-reader-preserved
loop-reader-preserved c =
    one_more (EncodesUnsigned 32) itself c.new-reader.result c.loop-reader.reader c.read_var_u32.new.self c.loop-reader.sum _ c.in-Ok.number
    c.loop-reader.invariant c.in-Ok.ensures (ap (λ n. (c.loop-reader.sum + n) % 2 ^ 64) c.from-sum.ensures)

pub returns-in-Err : goal.returns-in-Err
returns-in-Err c =
    summed (EncodesUnsigned 32) itself (number_prefix_code 32) (unsigned_some 32) c.args.bytes.now c.new-reader.result c.loop-reader.reader c.loop-reader.sum
    (ap rest c.new-reader.ensures) c.loop-reader.invariant
    (refused_now (EncodesUnsigned 32) c.in-Err.field-0 c.loop-reader.reader c.in-Err.ensures.1)

pub returns : goal.returns
returns c =
    summed (EncodesUnsigned 32) itself (number_prefix_code 32) (unsigned_some 32) c.args.bytes.now c.new-reader.result c.loop-reader.reader c.loop-reader.sum
    (ap rest c.new-reader.ensures) c.loop-reader.invariant
    (none_at_end (EncodesUnsigned 32) (unsigned_some 32) (rest c.loop-reader.reader) (c.eof.ensures.0 c.loop-reader-test.false))
