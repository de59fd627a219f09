use Rattle.std.proofs.Common.{sym, subst, ap, ◌∙◌}
use Rattle.std.specs.Prelude.{codes, nat_eq}
use Rattle.std.specs.Cmp.Lexicographic.{pointwise}
use Rattle.wasm_below.specs.Source.{Reader, IsRefusal, HasRead}
use Rattle.wasm_module.specs.Names.{EncodesName}
use Rattle.wasm_module.proofs.NamedFunctions.{one_value, not_both, is_not}
use Rattle.wasm_module.proofs.sections.names_of.Goals as goal

pub returns-else-eq : goal.returns-else-eq
returns-else-eq c contents is =
    let custom = c.in-Ok.custom in
    let reads = subst (λ (r : Reader). HasRead EncodesName custom.name r custom.contents) c.contents.ensures c.in-Ok.ensures.name in
    let same = one_value EncodesName c.names.ensures.one c.args.section.now.contents custom.contents contents custom.name (codes "name") reads is.1 in
    is_not (sym c.if-eq.false ∙ c.eq.ensures ∙ ap (λ x. pointwise nat_eq x c.as_slice.result.now) (c.name.ensures ∙ same) ∙
    ap (λ y. pointwise nat_eq (codes "name") y) c.as_slice.ensures)

pub returns-in-Err : goal.returns-in-Err
returns-in-Err c contents is =
    let refused = subst (λ (r : Reader). IsRefusal EncodesName c.in-Err.field-0 r) c.contents.ensures c.in-Err.ensures.refused in
    not_both EncodesName c.in-Err.field-0 c.args.section.now.contents contents (codes "name") refused is.1
