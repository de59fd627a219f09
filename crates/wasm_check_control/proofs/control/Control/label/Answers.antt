use Rattle.std.proofs.Common.{rules, ◌≡◌, ◌<◌, ◌≤◌, ◌-◌, length, sym, subst, ap, ◌∙◌, Some, get_or}
use Rattle.std.specs.Prelude.{vec_len}
use Rattle.wasm_check_control.proofs.Labels.{label_there, label_past, label_of_frame}
use Rattle.wasm_check_control.proofs.control.Control.label.Goals as goal

pub returns-then-depth-len : goal.returns-then-depth-len
returns-then-depth-len c =
    let n : vec_len c.self.inside.around ≡ length c.self.inside.around.items = search rules in
    sym (label_past c.self.inside.current c.self.inside.around.items c.self.inside.operands c.args.self.now c.self.invariant.0 c.self.invariant.1 c.self.view_is c.args.depth
    c.if-depth-eq0.false (subst (λ m. m < c.args.depth) (c.len.ensures ∙ n) c.if-depth-len.true))

pub returns : goal.returns
unfolding label_of_frame
returns c =
    let n : vec_len c.self.inside.around ≡ length c.self.inside.around.items = search rules in
    ap (λ s. Some s) (c.label-2.ensures ∙ ap label_of_frame (c.index.ensures ∙
    ap (λ m. get_or c.self.inside.around.items (m - c.args.depth) c.index.result.now) (c.len-2.ensures ∙ n))) ∙
    sym (label_there c.self.inside.current c.self.inside.around.items c.self.inside.operands c.args.self.now c.self.invariant.0 c.self.invariant.1 c.self.view_is c.args.depth
    c.index.result.now c.if-depth-eq0.false (subst (λ m. c.args.depth ≤ m) (c.len.ensures ∙ n) c.if-depth-len.false))
