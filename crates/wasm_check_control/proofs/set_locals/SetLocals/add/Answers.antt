use Rattle.std.proofs.Common.{rules, ◌≡◌, [], IsTrue, sym, ap, ◌∙◌}
use Rattle.wasm_check_control.specs.SetLocals.{set_also}
use Rattle.wasm_check_control.proofs.SetLists.{view_added, heights_added}
use Rattle.wasm_check_control.proofs.set_locals.SetLocals.add.Goals as goal

pub invariant_of-self-2 : goal.invariant_of-self-2
invariant_of-self-2 c =
    let e : c.self.inside.heights.items ≡ [] → IsTrue c.is_empty.result = search rules in
    heights_added c.self.inside.heights.items c.self.inside.locals c.push.new.self c.args.local (λ n. absurd (cc (sym c.if-is_empty.false ∙ e n))) c.in_ok-push.ensures.added c.self.invariant

pub returns-clause-added : goal.returns-clause-added
returns-clause-added c =
    let e : c.self.inside.heights.items ≡ [] → IsTrue c.is_empty.result = search rules in
    view_added c.self.inside.heights.items c.self.inside.locals c.push.new.self c.args.local (λ n. absurd (cc (sym c.if-is_empty.false ∙ e n))) c.in_ok-push.ensures.added c.self.invariant ∙
    ap (set_also c.args.local) c.self.view_is
