use Rattle.std.proofs.Common.{ℕ, List, Bor, inl, inr}
use Rattle.std.specs.Prelude.{option_map}
use Rattle.wasm_details.proofs.Shown.{module_listed}
use Rattle.wasm_details.proofs.module.list_opened.Goals as goal

pub returns-in-Err-write_heading : goal.returns-in-Err-write_heading
returns-in-Err-write_heading g c =
    inr (record { after = c.args.sections; begins = c.requires; name = c.module_name.result.now; is_name = (c.module_name.ensures.names, c.module_name.ensures.none); names = c.in-Ok.names; are_names = c.in-Ok.ensures; lists = inl c.in-Err-write_heading.ensures })

pub returns : goal.returns
returns g c =
    let file = option_map (λ (text : Bor (List ℕ)). text.now) c.args.file in
    let asked = option_map (λ (text : Bor (List ℕ)). text.now) c.args.asked in
    module_listed (record { grammar = g.C.Read.grammar; shows = g.C.ConstantDetails.shows }) c.args.features file asked c.args.bytes.now c.write_details.result c.args.sections
    c.module_name.result.now c.in-Ok.names (g.W.Write.contents c.args.writer.now) (g.W.Write.contents c.write_heading.new.writer)
    (g.W.Write.contents c.write_details.new.writer) c.requires (c.module_name.ensures.names, c.module_name.ensures.none) c.in-Ok.ensures c.in_default.ensures
    c.write_details.ensures
