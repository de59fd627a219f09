use Rattle.std.proofs.Common.{reverse, sym, ap, ◌∙◌}
use Rattle.wasm_typing.specs.Rules.{is_member}
use Rattle.wasm_check_control.specs.SetLocals.{set_now}
use Rattle.wasm_check_control.proofs.SetLists.{now_is}
use Rattle.wasm_check_control.proofs.set_locals.SetLocals.contains.Goals as goal

pub returns : goal.returns
returns c =
    c.contains.ensures ∙ ap (is_member c.args.local) (sym (now_is (reverse c.self.inside.heights.items) (reverse c.self.inside.locals) c.self.invariant) ∙ ap set_now c.self.view_is)
