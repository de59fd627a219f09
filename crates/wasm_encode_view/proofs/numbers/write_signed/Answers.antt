use Rattle.std.proofs.Common.{◌++◌, ap, ◌∙◌, arith, true, false}
use Rattle.std.proofs.lemmas.Int.{ints}
use Rattle.wasm_encode_numbers.proofs.Signed.{bytes_of_sign}
use Rattle.wasm_encode_view.proofs.numbers.write_signed.Goals as goal

pub returns-then-value-lt0-clause-bytes : goal.returns-then-value-lt0-clause-bytes
returns-then-value-lt0-clause-bytes c =
    c.write_with_sign.ensures.bytes ∙ ap (λ text. c.args.out.now.items ++ text) (bytes_of_sign true _ c.args.value (omega (arith, ints, c.if-value-lt0.true, c.ranges.value)))

pub returns-clause-bytes : goal.returns-clause-bytes
returns-clause-bytes c =
    c.write_with_sign-2.ensures.bytes ∙ ap (λ text. c.args.out.now.items ++ text) (bytes_of_sign false _ c.args.value (omega (arith, ints, c.if-value-lt0.false, c.ranges.value)))
