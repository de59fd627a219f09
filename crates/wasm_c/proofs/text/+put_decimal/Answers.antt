use Rattle.std.proofs.Common.{◌+◌, ◌/◌, ◌%◌, ◌∷◌, [], sym, subst, arith}
use Rattle.std.proofs.lemmas.Fmt.{decimal_digit, decimal_step}
use Rattle.std.specs.Fmt.{decimal}
use Rattle.wasm_c.specs.Texts.{PutsPiece}
use Rattle.wasm_c.proofs.Puts.{puts_both}
use Rattle.wasm_c.proofs.text.+put_decimal.Goals as goal

pub returns-then-value-lt10-clause-puts : goal.returns-then-value-lt10-clause-puts
returns-then-value-lt10-clause-puts t c =
    subst (λ piece. PutsPiece piece c.args.at c.args.text.now c.put_byte.result c.put_byte.new.text)
    (sym (decimal_digit c.args.value c.if-value-lt10.true)) c.put_byte.ensures

pub returns-clause-puts : goal.returns-clause-puts
returns-clause-puts t c =
    let both =
    puts_both (decimal (c.args.value / 10)) ((48 + c.args.value % 10) ∷ []) c.args.at c.put_decimal-next.result c.put_byte-2.result c.args.text.now
    c.put_decimal-next.new.text c.put_byte-2.new.text c.put_decimal-next.ensures.puts c.put_byte-2.ensures in
    subst (λ piece. PutsPiece piece c.args.at c.args.text.now c.put_byte-2.result c.put_byte-2.new.text)
    (sym (decimal_step c.args.value c.if-value-lt10.false (omega (arith, c.ranges.value.fits)))) both
