use Rattle.std.proofs.Common.{◌<◌, ap, ◌∙◌, arith, rules}
use Rattle.std.specs.Int.{w128, to_le_bytes, from_le_bytes, cast_signed, cast_unsigned}
use Rattle.std.proofs.lemmas.Int.{to_z-of_z}
use Rattle.std.proofs.lemmas.List.Elements.{All-from_get_or}
use mir.Val.{SFits}
use Rattle.uses.proofs.vectors.signed_number_of.Goals as goal

pub returns : goal.returns
returns c =
    let bytes = c.args.bytes.now in
    let small = All-from_get_or (λ b. b < 256) bytes 0 (λ i within. omega (arith, c.type_inv.bytes i)) in
    let fits : SFits w128 c.i128.result = search rules in
    let number = to_z-of_z w128 c.i128.result fits ∙ c.i128.ensures ∙ ap (λ b. cast_signed w128 (from_le_bytes w128 b)) c.vector_from.ensures in
    ap (λ n. to_le_bytes w128 (cast_unsigned w128 n)) number ∙ c.vector_restored_signed.ensures bytes c.requires small
