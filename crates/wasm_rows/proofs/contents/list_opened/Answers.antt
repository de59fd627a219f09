use Rattle.std.proofs.Common.{ℕ, List, Bor, inl}
use Rattle.std.specs.Prelude.{option_map}
use Rattle.wasm_rows.proofs.Sections.{contents_listed}
use Rattle.wasm_rows.proofs.contents.list_opened.Goals as goal

pub returns-in-Err : goal.returns-in-Err
returns-in-Err g c =
    record { after = c.args.sections; begins = c.requires; name = c.module_name.result.now; is_name = (c.module_name.ensures.names, c.module_name.ensures.none); lists = inl c.in-Err.ensures }

pub returns : goal.returns
returns g c =
    let asked = option_map (λ (text : Bor (List ℕ)). text.now) c.args.asked in
    let file = option_map (λ (text : Bor (List ℕ)). text.now) c.args.file in
    contents_listed asked c.args.features file c.args.bytes.now c.write_sections.result c.args.sections c.module_name.result.now (g.W.Write.contents c.args.writer.now)
    (g.W.Write.contents c.write_title.new.writer) (g.W.Write.contents c.write_sections.new.writer) c.requires (c.module_name.ensures.names, c.module_name.ensures.none)
    c.in_default.ensures c.write_sections.ensures
