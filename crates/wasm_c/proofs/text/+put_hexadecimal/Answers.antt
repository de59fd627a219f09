use Rattle.std.proofs.Common.{◌/◌, ◌++◌, ◌∷◌, [], false, sym, subst, ap, ◌∙◌}
use Rattle.std.proofs.lemmas.Fmt.{hex_one_digit}
use Rattle.wasm_operators.specs.below.MessageText.{hexadecimal}
use Rattle.wasm_c.specs.Texts.{PutsPiece}
use Rattle.wasm_c.proofs.Puts.{puts_both}
use Rattle.wasm_c.proofs.Digits.{hexadecimal_step}
use Rattle.wasm_c.proofs.text.+put_hexadecimal.Goals as goal

pub returns-then-value-lt16-clause-puts : goal.returns-then-value-lt16-clause-puts
returns-then-value-lt16-clause-puts t c =
    let one = ap (λ g. g ∷ []) c.digit.ensures ∙ sym (hex_one_digit false c.args.value c.if-value-lt16.true) in
    subst (λ piece. PutsPiece piece c.args.at c.args.text.now c.put_byte.result c.put_byte.new.text) one c.put_byte.ensures

pub returns-clause-puts : goal.returns-clause-puts
returns-clause-puts t c =
    let last = ap (λ g. hexadecimal (c.args.value / 16) ++ g ∷ []) c.digit-2.ensures ∙
    sym (hexadecimal_step c.args.value c.if-value-lt16.false c.ranges.value.fits) in
    let both =
    puts_both (hexadecimal (c.args.value / 16)) (c.digit-2.result ∷ []) c.args.at c.put_hexadecimal-next.result c.put_byte-2.result c.args.text.now
    c.put_hexadecimal-next.new.text c.put_byte-2.new.text c.put_hexadecimal-next.ensures.puts c.put_byte-2.ensures in
    subst (λ piece. PutsPiece piece c.args.at c.args.text.now c.put_byte-2.result c.put_byte-2.new.text) last both
