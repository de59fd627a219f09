use Rattle.std.proofs.Common.{◌+◌, ◌%◌, ◌^◌, ap, ◌≡◌, ◌∙◌, subst, Ok}
use Rattle.wasm_operators.specs.below.Source.{Reader, rest, HasRead, IsRefusal}
use Rattle.wasm_operators.specs.below.declared.features.WasmFeatures.{WasmFeatures}
use Rattle.wasm_below.proofs.Blocks.{refused_now}
use Rattle.wasm_bench.proofs.Reading.{one_more, summed, none_at_end, then_some}
use Rattle.wasm_operators.specs.below.Number.{EncodesUnsigned}
use Rattle.wasm_operators.specs.below.Features.{all_features}
use Rattle.wasm_below.proofs.Steps.{unsigned_some}
use Rattle.wasm_operators.specs.imm.declared.memory_argument.MemArgKind.TheVariants as kind
use Rattle.wasm_operators.specs.imm.MemoryArgument.{EncodesMemArg}
use Rattle.wasm_imm.proofs.FlagsNumber.{memarg_prefix_code}
use Rattle.wasm_bench.specs.Sums.{argument_counts}
use Rattle.wasm_bench.proofs.wasm_bench_memarg.Goals as goal

pub loop-reader-preserved : goal.loop-reader-preserved
loop-reader-preserved c =
    let same : c.loop-reader.reader.features ≡ all_features = ap (λ (r : Reader). r.features) c.loop-reader.invariant.taken.moved ∙
    ap (λ (r : Reader). r.features) c.new-reader.ensures in
    one_more (EncodesMemArg all_features kind.Plain 2) argument_counts c.new-reader.result c.loop-reader.reader c.read.new.reader c.loop-reader.sum _
    c.in-Ok.argument c.loop-reader.invariant
    (subst (λ (f : WasmFeatures). HasRead (EncodesMemArg f kind.Plain 2) c.in-Ok.argument c.loop-reader.reader c.read.new.reader) same
    c.in-Ok.ensures) (ap (λ n. (c.loop-reader.sum + (c.in-Ok.argument.offset + n) % 2 ^ 64) % 2 ^ 64) c.from.ensures)

pub returns-in-Err : goal.returns-in-Err
returns-in-Err c =
    let same : c.loop-reader.reader.features ≡ all_features = ap (λ (r : Reader). r.features) c.loop-reader.invariant.taken.moved ∙
    ap (λ (r : Reader). r.features) c.new-reader.ensures in
    summed (EncodesMemArg all_features kind.Plain 2) argument_counts (memarg_prefix_code all_features kind.Plain 2)
    (then_some (EncodesUnsigned 32) _ (unsigned_some 32)) c.args.bytes.now c.new-reader.result c.loop-reader.reader c.loop-reader.sum
    (ap rest c.new-reader.ensures) c.loop-reader.invariant
    (refused_now (EncodesMemArg all_features kind.Plain 2) c.in-Err.field-0 c.loop-reader.reader
    (subst (λ (f : WasmFeatures). IsRefusal (EncodesMemArg f kind.Plain 2) c.in-Err.field-0 c.loop-reader.reader) same c.in-Err.ensures.1))

pub returns : goal.returns
returns c =
    summed (EncodesMemArg all_features kind.Plain 2) argument_counts (memarg_prefix_code all_features kind.Plain 2)
    (then_some (EncodesUnsigned 32) _ (unsigned_some 32)) c.args.bytes.now c.new-reader.result c.loop-reader.reader c.loop-reader.sum
    (ap rest c.new-reader.ensures) c.loop-reader.invariant
    (none_at_end (EncodesMemArg all_features kind.Plain 2) (then_some (EncodesUnsigned 32) _ (unsigned_some 32)) (rest c.loop-reader.reader)
    (c.eof.ensures.0 c.loop-reader-test.false))
