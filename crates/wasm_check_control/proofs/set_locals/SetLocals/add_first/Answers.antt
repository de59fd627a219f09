use Rattle.std.proofs.Common.{◌≡◌, ◌∷◌, [], reverse, sym, ap, ◌∙◌}
use Rattle.wasm_check_control.specs.SetLocals.{set_now, set_also}
use Rattle.wasm_check_control.proofs.SetLists.{view_added, heights_added, some_heights, on_ok}
use Rattle.wasm_check_control.proofs.set_locals.SetLocals.add_first.Goals as goal

pub invariant_of-self-else-is_err : goal.invariant_of-self-else-is_err
invariant_of-self-else-is_err c =
    let some = some_heights c.self.inside.heights.items (reverse c.self.inside.locals) (set_now c.args.self.now) c.args.self.now (c.self.view_is ∙ c.in_ok-open.ensures.opened) in
    heights_added c.self.inside.heights.items c.self.inside.locals c.push.new.self c.args.local some
    (on_ok c.push.result _ c.push.ensures.added (sym c.is_err.ensures.value ∙ c.if-is_err.false)) c.self.invariant

pub returns-clause-added : goal.returns-clause-added
returns-clause-added c =
    let some = some_heights c.self.inside.heights.items (reverse c.self.inside.locals) (set_now c.args.self.now) c.args.self.now (c.self.view_is ∙ c.in_ok-open.ensures.opened) in
    view_added c.self.inside.heights.items c.self.inside.locals c.push.new.self c.args.local some
    (on_ok c.push.result _ c.push.ensures.added (sym c.is_err.ensures.value ∙ c.if-is_err.false)) c.self.invariant ∙
    ap (set_also c.args.local) (c.self.view_is ∙ c.in_ok-open.ensures.opened)
