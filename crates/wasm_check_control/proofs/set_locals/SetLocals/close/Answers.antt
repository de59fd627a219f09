use Rattle.std.proofs.Common.{◌≡◌, ◌++◌, subst, ap, ◌∙◌}
use Rattle.std.specs.Option.{option_to_list}
use Rattle.wasm_check_control.specs.SetLocals.{set_outside}
use Rattle.wasm_check_control.proofs.SetLists.{view_closed, heights_closed}
use Rattle.wasm_check_control.proofs.set_locals.SetLocals.close.Goals as goal

pub invariant_of-self : goal.invariant_of-self
invariant_of-self c =
    heights_closed c.self.inside.heights.items c.pop.new.self.items c.self.inside.locals c.truncate.new.self c.in-Some.height
    (subst (λ o. c.self.inside.heights.items ≡ c.pop.new.self.items ++ option_to_list o) c.in-Some.is c.pop.ensures.items) c.truncate.ensures c.self.invariant

pub returns-in-Some : goal.returns-in-Some
returns-in-Some c =
    view_closed c.self.inside.heights.items c.pop.new.self.items c.self.inside.locals c.truncate.new.self c.in-Some.height
    (subst (λ o. c.self.inside.heights.items ≡ c.pop.new.self.items ++ option_to_list o) c.in-Some.is c.pop.ensures.items) c.truncate.ensures c.self.invariant ∙
    ap set_outside c.self.view_is
