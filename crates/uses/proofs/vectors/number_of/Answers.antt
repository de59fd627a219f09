use Rattle.std.proofs.Common.{◌<◌, ap, ◌∙◌, arith}
use Rattle.std.specs.Int.{w128, to_le_bytes, from_le_bytes}
use Rattle.std.proofs.lemmas.List.Elements.{All-from_get_or}
use Rattle.uses.proofs.vectors.number_of.Goals as goal

pub returns : goal.returns
returns c =
    let bytes = c.args.bytes.now in
    let small = All-from_get_or (λ b. b < 256) bytes 0 (λ i within. omega (arith, c.type_inv.bytes i)) in
    ap (to_le_bytes w128) (c.from_le_bytes.ensures ∙ ap (from_le_bytes w128) c.vector_from.ensures) ∙ c.vector_restored.ensures bytes c.requires small
