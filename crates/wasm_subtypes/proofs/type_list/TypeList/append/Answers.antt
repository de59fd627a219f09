use Rattle.std.proofs.Common.{◌≡◌, ℕ, [], ◌∷◌, ◌++◌, length, sym, ap, subst, ◌∙◌, append_assoc, length-append, arith}
use Rattle.std.specs.Vec.Iter.{into_iter_items}
use Rattle.wasm_subtypes.specs.Types.{AreOrdered, IsFirstEqual, placed, MayIdentify, Extends, AllExtend}
use Rattle.wasm_subtypes.specs.Errors.{Blames}
use Rattle.wasm_subtypes.proofs.Adding.{may_next, added_more, all_whole, blames_group, blamed}
use Rattle.wasm_subtypes.proofs.type_list.TypeList.append.Goals as goal

pub push-requires : goal.push-requires
push-requires c =
    let old = c.args.self in
    let group = c.args.group.items in
    let start = c.args.start in
    let ys = c.loop-ty.yielded in
    let ty = c.in-Some.ty in
    let left = c.loop-ty.invariant in
    let steps : into_iter_items c.loop-ty.ty-iterator ≡ ty ∷ into_iter_items c.next.new.self = c.in-Some.ensures.steps.0 in
    let whole : group ≡ ys ++ ty ∷ into_iter_items c.next.new.self =
    sym c.into_iter-ty-iterator.ensures.into_iter_gives.0 ∙ sym left.3 ∙ ap (λ l. ys ++ l) steps in
    let first : IsFirstEqual old group start = c.requires.first in
    subst (λ l. MayIdentify l c.loop-ty.identity ty) (sym left.0)
    (subst (λ n. MayIdentify (old ++ placed (length old) start ys) n ty) (sym left.1)
    (may_next old (subst AreOrdered c.self.view_is c.self.invariant) group start first ys ty (into_iter_items c.next.new.self) whole))

pub returns-in_err-push-clause-blames : goal.returns-in_err-push-clause-blames
returns-in_err-push-clause-blames c =
    let old = c.args.self in
    let group = c.args.group.items in
    let start = c.args.start in
    let ys = c.loop-ty.yielded in
    let ty = c.in-Some.ty in
    let left = c.loop-ty.invariant in
    let steps : into_iter_items c.loop-ty.ty-iterator ≡ ty ∷ into_iter_items c.next.new.self = c.in-Some.ensures.steps.0 in
    let whole : group ≡ ys ++ ty ∷ into_iter_items c.next.new.self =
    sym c.into_iter-ty-iterator.ensures.into_iter_gives.0 ∙ sym left.3 ∙ ap (λ l. ys ++ l) steps in
    let first : IsFirstEqual old group start = c.requires.first in
    blamed _ (λ e. (s : ℕ) → IsFirstEqual old group s → Blames e (AllExtend old (length old) s group) (Unit {0}))
    c.from_residual.ensures.1
    (blames_group old c.loop-ty.types group ys ty (into_iter_items c.next.new.self) start c.in_err-push.field-0.0 left.0 whole first c.in_err-push.ensures.blames)

pub loop-ty-preserved : goal.loop-ty-preserved
loop-ty-preserved c =
    let old = c.args.self in
    let start = c.args.start in
    let ys = c.loop-ty.yielded in
    let ty = c.in-Some.ty in
    let left = c.loop-ty.invariant in
    let steps : into_iter_items c.loop-ty.ty-iterator ≡ ty ∷ into_iter_items c.next.new.self = c.in-Some.ensures.steps.0 in (
      added_more old c.loop-ty.types c.push.new.self start ys ty c.len-first.result c.loop-ty.identity left.0 left.1 c.len-first.ensures c.in_ok-push.ensures.pushed,
      (let n = length-append ys (ty ∷ []) in let e = left.1 in omega (arith, n, e)),
      all_whole old (length old) start ys (ty ∷ []) left.2 (subst (λ l. Extends l ty ty.supertype_idx) left.0 c.in_ok-push.ensures.fits, tt),
      append_assoc ys (ty ∷ []) (into_iter_items c.next.new.self) ∙ ap (λ l. ys ++ l) (sym steps) ∙ left.3,
    )
