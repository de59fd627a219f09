use Rattle.std.proofs.Common.{refl, ◌∙◌}
use Rattle.wasm_c.proofs.Puts.{byte_set, byte_left}
use Rattle.wasm_c.proofs.text.put_byte.Goals as goal
use Rattle.wasm_c.proofs.text.put_byte.Goals.{then-at-text, else-at-text}

pub returns : goal.returns
returns c =
    let law = c.written_members.ensures in (
      refl,
      λ before room place is. elim c.if-at-text.branch [
        | then-at-text w ↦ byte_set law.long law.fits before room c.args.text.now c.if-at-text.text c.args.at c.args.byte place is w.if-at-text.true w.text-is
        | else-at-text w ↦ w.text-is ∙ byte_left law.long law.full before room c.args.text.now c.args.at c.args.byte place is w.if-at-text.false
      ],
    )
