use Rattle.std.proofs.Common.{◌+◌, ◌%◌, ◌^◌, ◌∙◌, ap, rules}
use Rattle.std.proofs.lemmas.Int.{to_z-of_z}
use mir.Val.{SFits}
use Rattle.wasm_operators.specs.below.Source.{rest}
use Rattle.wasm_below.proofs.Blocks.{refused_now}
use Rattle.wasm_bench.proofs.Reading.{one_more, summed, none_at_end}
use Rattle.std.specs.Int.{w32, cast_unsigned}
use Rattle.wasm_operators.specs.below.Number.{EncodesSigned}
use Rattle.wasm_below.proofs.PrefixCode.{signed_prefix_code, signed_some}
use Rattle.wasm_bench.proofs.wasm_bench_i32.Goals as goal

pub loop-reader-preserved : goal.loop-reader-preserved
loop-reader-preserved c =
    let fits : SFits w32 c.in-Ok.number = search rules in
    let bits = c.from-sum.ensures ∙ c.cast_unsigned.ensures ∙ ap (cast_unsigned w32) (to_z-of_z w32 c.in-Ok.number fits) in
    one_more (EncodesSigned 32) (cast_unsigned w32) c.new-reader.result c.loop-reader.reader c.read_var_i32.new.self c.loop-reader.sum _ c.in-Ok.number
    c.loop-reader.invariant c.in-Ok.ensures (ap (λ n. (c.loop-reader.sum + n) % 2 ^ 64) bits)

pub returns-in-Err : goal.returns-in-Err
returns-in-Err c =
    summed (EncodesSigned 32) (cast_unsigned w32) (λ a b x y m n p q e. signed_prefix_code a b 32 x y m n p q e) (λ text n p. signed_some text 32 n p)
    c.args.bytes.now c.new-reader.result c.loop-reader.reader c.loop-reader.sum (ap rest c.new-reader.ensures) c.loop-reader.invariant
    (refused_now (EncodesSigned 32) c.in-Err.field-0 c.loop-reader.reader c.in-Err.ensures.1)

pub returns : goal.returns
returns c =
    summed (EncodesSigned 32) (cast_unsigned w32) (λ a b x y m n p q e. signed_prefix_code a b 32 x y m n p q e) (λ text n p. signed_some text 32 n p)
    c.args.bytes.now c.new-reader.result c.loop-reader.reader c.loop-reader.sum (ap rest c.new-reader.ensures) c.loop-reader.invariant
    (none_at_end (EncodesSigned 32) (λ text n p. signed_some text 32 n p) (rest c.loop-reader.reader) (c.eof.ensures.0 c.loop-reader-test.false))
