use Rattle.std.proofs.Common.{refl, sym, subst, ◌∙◌, inl, inr}
use Rattle.wasm_below.specs.Source.{Reader, IsRefusal}
use Rattle.wasm_module.specs.Names.{EncodesName}
use Rattle.wasm_module.proofs.names.name_of_module.Goals as goal

pub returns-in-Err-read : goal.returns-in-Err-read
returns-in-Err-read c =
    let e = c.in-Err-read.field-0 in
    let refused = subst (λ (r : Reader). IsRefusal EncodesName e r) c.contents.ensures c.in-Err-read.ensures.1 in
    inl (c.in-Ok.section, c.read_section.new.reader, c.in-Ok.ensures.reads, inr (sym c.id.ensures ∙ c.if-id-ne-MODULE_NAME.false, inr (e, refused, refl)))
