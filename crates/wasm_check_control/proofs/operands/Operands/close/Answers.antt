use Rattle.std.proofs.Common.{rules, ◌≡◌, length, sym, ◌∙◌}
use Rattle.std.specs.Prelude.{vec_len}
use Rattle.wasm_check_control.proofs.SegmentLemmas.{close_there, at_none}
use Rattle.wasm_check_control.proofs.operands.Operands.close.Goals as goal

pub returns-in-Some : goal.returns-in-Some
returns-in-Some c =
    let n : vec_len c.self.inside.outer ≡ length c.self.inside.outer.items = search rules in
    close_there c.self.inside.floor c.self.inside.outer.items c.in-Some.floor c.in-Some.is c.self.inside.items.items c.truncate.new.self.items c.args.self.now
    c.pop-self-inside.new.self.items c.pop-self-inside.result
    c.self.invariant.0 c.self.view_is c.truncate.ensures.items c.pop-self-inside.ensures.items
    (λ e. sym n ∙ (at_none c.pop-self-inside.result _ _ c.pop-self-inside.ensures.cases e).0)
