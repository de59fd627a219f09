use Rattle.std.proofs.Common.{Err, inl, inr, refl, subst}
use Rattle.std.specs.Io.KnownBytes.{Appends}
use Rattle.wasm_details.specs.Items.{title_text}
use Rattle.wasm_rows.specs.Writing.{WritesText}
use Rattle.wasm_details.proofs.Listed.{section_listed}
use Rattle.wasm_details.proofs.items.write_section.Goals as goal

pub returns-in-Err : goal.returns-in-Err
returns-in-Err g c = inl (c.in-Err.e, refl, c.in-Err.ensures.refused, refl)

pub returns-in-Err-write_title : goal.returns-in-Err-write_title
returns-in-Err-write_title g c =
    inr (
      c.in-Ok.section,
      c.in-Ok.ensures.count,
      inl (subst (λ n. WritesText {X = Unit {0}} (title_text c.args.title.now n) (Err c.in-Err-write_title.fault) (g.W.Write.contents c.args.writer.now)
          (g.W.Write.contents c.write_title.new.writer)) c.count.ensures c.in-Err-write_title.ensures),
    )

pub returns : goal.returns
returns g c =
    let old = g.W.Write.contents c.args.writer.now in
    let titled = g.W.Write.contents c.write_title.new.writer in
    section_listed g.T.Read.grammar (g.T.Details.lists c.args.context.now) c.args.title.now c.args.contents c.args.place c.in-Ok.section c.write_items.result old titled
    (g.W.Write.contents c.write_items.new.writer) c.in-Ok.ensures.count
    (subst (λ n. Appends old titled (title_text c.args.title.now n)) c.count.ensures c.in_default.ensures) c.write_items.ensures
