use Rattle.std.proofs.Common.{◌++◌, ◌∷◌, [], ap, sym, ◌∙◌}
use Rattle.wasm_encode_numbers.proofs.Written.{short_signed}
use Rattle.wasm_encode_numbers.proofs.numbers.write_with_sign.Goals as goal

pub returns-then-distance-lt64-clause-bytes : goal.returns-then-distance-lt64-clause-bytes
returns-then-distance-lt64-clause-bytes c =
    c.push_reserved.ensures.items ∙ ap (λ low. c.args.out.now.items ++ low ∷ []) c.complemented.ensures.value ∙ ap (λ text. c.args.out.now.items ++ text) (sym (short_signed c.args.negative c.args.distance c.if-distance-lt64.true))
