use Rattle.std.proofs.Common.{rules, ◌≡◌, ◌∷◌, [], ◌++◌, Bool, true, false, length, set, reverse, sym, ap, subst, ◌∙◌}
use Rattle.std.specs.Prelude.{vec_len}
use Rattle.wasm_typing.specs.Rules.{is_member}
use Rattle.wasm_check_control.specs.SetLocals.{ArePlaced}
use Rattle.wasm_check_control.proofs.LocalStacks.{placed_again, placed_more, placed_new}
use Rattle.wasm_check_control.proofs.local_stack.LocalStack.push.Goals as goal

pub invariant_of-self-then-contains : goal.invariant_of-self-then-contains
invariant_of-self-then-contains c =
    let there : is_member c.args.local (reverse c.self.inside.locals.items) ≡ true =
    ap (λ l. is_member c.args.local (reverse l)) c.self.view_is ∙ sym c.if-contains.ensures in
    subst (λ l. ArePlaced l c.self.inside.places.items) (sym c.in_ok-push.ensures.items)
    (placed_again c.self.inside.locals.items c.self.inside.places.items c.self.invariant c.args.local there)

pub invariant_of-self-2 : goal.invariant_of-self-2
invariant_of-self-2 c =
    let old = c.self.inside.locals.items in
    let long = c.lengthen.new.places.items in
    let none : is_member c.args.local (reverse old) ≡ false =
    ap (λ l. is_member c.args.local (reverse l)) c.self.view_is ∙ sym c.if-contains.ensures in
    let n : vec_len c.self.inside.locals ≡ length old = search rules in
    subst (λ l. ArePlaced l (set long c.args.local c.len-place.result)) (sym c.in_ok-push-2.ensures.items)
    (subst (λ k. ArePlaced (old ++ c.args.local ∷ []) (set long c.args.local k)) (sym (c.len-place.ensures ∙ n))
    (placed_new old long (placed_more old c.self.inside.places.items c.self.invariant long c.lengthen.ensures.kept c.lengthen.ensures.grown) c.args.local none c.in_ok-lengthen.ensures.long))
