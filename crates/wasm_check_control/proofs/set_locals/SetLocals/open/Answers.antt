use Rattle.std.proofs.Common.{◌∷◌, ap, ◌∙◌}
use Rattle.wasm_check_control.specs.SetLocals.{set_now}
use Rattle.wasm_check_control.proofs.SetLists.{view_opened}
use Rattle.wasm_check_control.proofs.set_locals.SetLocals.open.Goals as goal

pub returns-clause-opened : goal.returns-clause-opened
returns-clause-opened c =
    view_opened c.self.inside.heights.items c.push.new.self.items c.self.inside.locals c.len.result c.in_ok-push.ensures.items c.len.ensures c.self.invariant ∙
    ap (λ s. set_now s ∷ s) c.self.view_is
