use Rattle.std.proofs.Common.{refl, sym, subst, ◌∙◌}
use Rattle.wasm_module_context.specs.Constants.{IsConstant}
use Rattle.wasm_module_context.specs.Parts.{AddsInMemory, AddsPlace}
use Rattle.wasm_module_context.proofs.data.add_place.Goals as goal

pub returns-in-Ok-clause-added : goal.returns-in-Ok-clause-added
returns-in-Ok-clause-added c =
    let typed = subst (λ t. IsConstant c.args.context t c.in-Active.offset_expr) c.address_type.ensures c.in-Ok.ensures.typed in
    let placed = subst (λ m. AddsInMemory m c.in-Active.offset_expr c.args.context c.args.context) (sym c.in-Some.is ∙ c.memory64.ensures) (typed, refl) in
    subst (λ k. AddsPlace k c.args.context c.args.context) (sym c.in-Active.is) placed
