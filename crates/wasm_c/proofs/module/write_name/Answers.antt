use Rattle.std.proofs.Common.{string_bytes, subst, inl}
use Rattle.wasm_c.specs.OperatorTexts.{PlacesText}
use Rattle.wasm_c.proofs.module.write_name.Goals as goal

pub returns-in-Ok : goal.returns-in-Ok
returns-in-Ok c =
    let placed =
    subst (λ text. PlacesText text 0 c.place_text.result c.place_text.new.length c.args.name.now c.place_text.new.out) c.as_str.ensures.value
    c.place_text.ensures in
    inl (string_bytes c.in-Ok.found, c.in-Ok.ensures.names, placed)
