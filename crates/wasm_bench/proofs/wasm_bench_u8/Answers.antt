use Rattle.std.proofs.Common.{◌+◌, ◌%◌, ◌^◌, ap, length, arith}
use Rattle.wasm_operators.specs.below.Source.{rest, IsByte}
use Rattle.wasm_bench.proofs.Reading.{one_more, summed, none_at_end}
use Rattle.wasm_below.proofs.PrefixCode.{byte_prefix_code}
use Rattle.wasm_bench.specs.Sums.{itself}
use Rattle.wasm_bench.proofs.wasm_bench_u8.Goals as goal

pub loop-reader-preserved : goal.loop-reader-preserved
loop-reader-preserved c =
    one_more IsByte itself c.new-reader.result c.loop-reader.reader c.read_u8.new.self c.loop-reader.sum _ c.in-Ok.byte c.loop-reader.invariant
    c.in-Ok.ensures (ap (λ n. (c.loop-reader.sum + n) % 2 ^ 64) c.from-sum.ensures)

pub returns : goal.returns
returns c =
    summed IsByte itself byte_prefix_code (λ text x p. omega (
      arith,
      ap length p.0,
    )) c.args.bytes.now c.new-reader.result c.loop-reader.reader c.loop-reader.sum (ap rest c.new-reader.ensures) c.loop-reader.invariant
    (none_at_end IsByte (λ text x p. omega (arith, ap length p.0)) (rest c.loop-reader.reader) (c.eof.ensures.0 c.loop-reader-test.false))
