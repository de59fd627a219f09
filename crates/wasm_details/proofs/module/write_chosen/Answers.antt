use Rattle.std.proofs.Common.{ℕ, List, Bor, None, true, false, refl, subst}
use Rattle.std.specs.Prelude.{option_map}
use Rattle.wasm_rows.specs.Contents.{IsChosen}
use Rattle.wasm_details.proofs.Shown.{constants_of, at_section}
use Rattle.wasm_details.proofs.module.write_chosen.Goals as goal

pub returns-then-is_chosen : goal.returns-then-is_chosen
returns-then-is_chosen g c =
    let asked = option_map (λ (text : Bor (List ℕ)). text.now) c.args.asked in
    let k = constants_of g.C.Read.grammar g.C.ConstantDetails.shows in
    let s = c.args.section.now in (
      true,
      subst (λ b. IsChosen asked s b) c.if-is_chosen.true c.is_chosen.ensures,
      at_section k c.args.names.now asked s c.id-number.result c.contents-contents.result c.args.place c.write_contents.result (g.W.Write.contents c.args.writer.now)
          (g.W.Write.contents c.write_contents.new.writer) c.id-number.ensures c.contents-contents.ensures c.write_contents.ensures,
    )

pub returns : goal.returns
returns g c =
    let asked = option_map (λ (text : Bor (List ℕ)). text.now) c.args.asked in
    let k = constants_of g.C.Read.grammar g.C.ConstantDetails.shows in
    let s = c.args.section.now in (
      false,
      subst (λ b. IsChosen asked s b) c.if-is_chosen.false c.is_chosen.ensures,
      (
        at_section k c.args.names.now asked s c.id-number.result c.contents-contents.result c.args.place c.read_contents.result None None c.id-number.ensures
            c.contents-contents.ensures c.read_contents.ensures,
        refl,
      ),
    )
