use Rattle.std.proofs.Common.{rules, ◌≡◌, ◌<◌, length, subst, sym, ◌∙◌}
use Rattle.std.specs.Prelude.{vec_len}
use Rattle.wasm_check_control.proofs.SegmentLemmas.{pop_there, at_none}
use Rattle.wasm_check_control.proofs.operands.Operands.pop.Goals as goal

pub returns : goal.returns
returns c =
    let n : vec_len c.self.inside.items ≡ length c.self.inside.items.items = search rules in
    pop_there c.self.inside.floor c.self.inside.outer.items c.in-Some.floor c.in-Some.is c.self.inside.items.items c.pop.new.self.items c.pop.result c.args.self.now
    c.self.invariant.0 (subst (λ n. c.in-Some.floor < n) (c.len.ensures ∙ n) c.if-len-floor.false) c.self.view_is c.pop.ensures.items
    (λ e. sym n ∙ (at_none c.pop.result _ _ c.pop.ensures.cases e).0)
