use Rattle.std.proofs.Common.{◌≡◌, [], ◌∷◌, ◌++◌, sym, subst, rules}
use Rattle.wasm_subtypes.specs.Types.{AreOrdered, MayIdentify, Extends}
use Rattle.wasm_subtypes.proofs.Adding.{ordered_more}
use Rattle.wasm_subtypes.proofs.type_list.TypeList.push.Goals as goal

pub invariant_of-self-2 : goal.invariant_of-self-2
invariant_of-self-2 c =
    let old = c.self.inside.items.items in
    let fits : Extends old c.args.ty c.args.ty.supertype_idx = search rules in
    let new : c.push_defined.new.items.items ≡ old ++ record { ty = c.args.ty; first = c.args.first; identity = c.args.identity } ∷ [] = search rules in
    subst AreOrdered (sym new)
    (ordered_more old c.args.ty c.args.first c.args.identity c.self.invariant
    (subst (λ l. MayIdentify l c.args.identity c.args.ty) (sym c.self.view_is) c.requires) fits)
