use Rattle.std.proofs.Common.{Err, inl, inr, subst}
use Rattle.std.specs.Io.KnownBytes.{Appends}
use Rattle.wasm_details.specs.Contents.{is_name, ListsCustomData}
use Rattle.wasm_details.specs.Namings.{custom_text}
use Rattle.wasm_rows.specs.Writing.{WritesText}
use Rattle.wasm_details.proofs.Named.{custom_listed}
use Rattle.wasm_details.proofs.contents.write_custom.Goals as goal

pub returns-in-Err-write_custom_title : goal.returns-in-Err-write_custom_title
returns-in-Err-write_custom_title g c =
    inr (
      c.in-Ok.name,
      c.read_from.new.reader,
      c.in-Ok.ensures,
      inl (subst (λ n. WritesText {X = Unit {0}} (custom_text n) (Err c.in-Err-write_custom_title.fault) (g.W.Write.contents c.args.writer.now)
          (g.W.Write.contents c.write_custom_title.new.writer)) c.as_str-shown.ensures c.in-Err-write_custom_title.ensures),
    )

pub returns : goal.returns
returns g c =
    let old = g.W.Write.contents c.args.writer.now in
    let titled = g.W.Write.contents c.write_custom_title.new.writer in
    let new = g.W.Write.contents c.write_data.new.writer in
    custom_listed c.args.contents c.read_from.new.reader c.in-Ok.name c.args.place c.write_data.result old titled new c.in-Ok.ensures
    (subst (λ n. Appends old titled (custom_text n)) c.as_str-shown.ensures c.in_default.ensures)
    (subst (λ n. ListsCustomData (is_name n) c.read_from.new.reader c.args.place c.write_data.result titled new) c.as_str-shown.ensures c.write_data.ensures)
