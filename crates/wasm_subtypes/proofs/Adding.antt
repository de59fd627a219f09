-- A type, and a group, added after the types of a module.
use Rattle.std.proofs.Common.{Result, Ok, Err, IfErr, ◌≡◌, ℕ, zero, suc, ◌+◌, ◌-◌, ◌<◌, ◌≤◌, List, [], ◌∷◌, ◌++◌, length, take, Option, Some, None, ◌⊎◌, inl, inr, refl, sym, ap, subst, ◌∙◌, append_assoc, arith}
use Rattle.std.specs.Option.{option_map, option_and_then}
use Rattle.wasm_types.specs.declared.composites.CompositeInnerType.{CompositeInnerType}
use Rattle.wasm_types.specs.declared.composites.CompositeInnerType.TheVariants as inner
use Rattle.wasm_types.specs.declared.recursive.SubType.{SubType}
use Rattle.std.specs.List.{slice_get}
use Rattle.std.specs.Result.{IsErrAnd}
use Rattle.std.proofs.lemmas.Bool.{cases_order}
use Rattle.wasm_subtypes.specs.declared.error.TypeError.{TypeError}
use Rattle.wasm_subtypes.specs.declared.error.TypeError.TheVariants as error
use Rattle.wasm_subtypes.specs.Composites.{AreValid}
use Rattle.wasm_subtypes.specs.Errors.{Blames}
use Rattle.std.proofs.lemmas.List.{append-nil}
use Rattle.wasm_subtypes.specs.Alike.{AlikeInner, AlikeOptional, Alike}
use Rattle.wasm_subtypes.specs.Types.{identity_of, identity, supertype, kind_of_inner, kind_of, kind, AreOrdered, SameUse, IsSameMember, IsSameGroup, IsFirstEqual, placed, MayIdentify, MayExtend, Extends, AllExtend, Added}
use Rattle.wasm_subtypes.specs.declared.defined.Defined.{Defined}
use Rattle.wasm_subtypes.proofs.Step.{one_more}

at_other : (xs : List Defined) (d : Defined) (i : ℕ) → (i ≡ length xs → ⊥) → slice_get (xs ++ d ∷ []) i ≡ slice_get xs i
at_other [] d zero ne = absurd (ne refl)
at_other [] d (suc i) ne = refl
at_other (x ∷ xs) d zero ne = refl
at_other (x ∷ xs) d (suc i) ne = at_other xs d i (λ e. ne (ap suc e))

at_here : (xs : List Defined) (d : Defined) → slice_get (xs ++ d ∷ []) (length xs) ≡ Some d
at_here [] d = refl
at_here (x ∷ xs) d = at_here xs d

pub at_past : {A : Type 0} (xs : List A) (i : ℕ) → length xs ≤ i → slice_get xs i ≡ None
at_past [] i p = refl
at_past (x ∷ xs) zero p = absurd (omega (arith, p))
at_past (x ∷ xs) (suc i) p = at_past xs i (omega (arith, p))

pub at_within : {A : Type 0} (xs : List A) (i : ℕ) (a : A) → slice_get xs i ≡ Some a → i < length xs
at_within [] i a e = absurd (cc e)
at_within (x ∷ xs) zero a e = omega arith
at_within (x ∷ xs) (suc i) a e = let p = at_within xs i a e in omega (arith, p)

pub at_there : {A : Type 0} (xs : List A) (i : ℕ) → i < length xs → (a : A) × (slice_get xs i ≡ Some a)
at_there [] i p = absurd (omega (arith, p))
at_there (x ∷ xs) zero p = (x, refl)
at_there (x ∷ xs) (suc i) p = at_there xs i (omega (arith, p))

pub at_before : {A : Type 0} (xs ys : List A) (i : ℕ) → i < length xs → slice_get (xs ++ ys) i ≡ slice_get xs i
at_before [] ys i p = absurd (omega (arith, p))
at_before (x ∷ xs) ys zero p = refl
at_before (x ∷ xs) ys (suc i) p = at_before xs ys i (omega (arith, p))

pub at_after : {A : Type 0} (xs ys : List A) (i q : ℕ) → i ≡ length xs + q → slice_get (xs ++ ys) i ≡ slice_get ys q
at_after [] ys i q e = ap (slice_get ys) (omega (arith, e))
at_after (x ∷ xs) ys zero q e = absurd (omega (arith, e))
at_after (x ∷ xs) ys (suc i) q e = at_after xs ys i q (omega (arith, e))

at_take : {A : Type 0} (xs : List A) (r q : ℕ) → q < r → slice_get (take r xs) q ≡ slice_get xs q
at_take [] zero q p = refl
at_take [] (suc r) q p = refl
at_take (x ∷ xs) zero q p = absurd (omega (arith, p))
at_take (x ∷ xs) (suc r) zero p = refl
at_take (x ∷ xs) (suc r) (suc q) p = at_take xs r q (omega (arith, p))

pub at_placed : (first i : ℕ) (g : List SubType) (q : ℕ) → slice_get (placed first i g) q ≡ option_map (λ ty. record { ty = ty; first = first; identity = i + q }) (slice_get g q)
at_placed first i [] q = refl
at_placed first i (ty ∷ g) zero = ap (λ n. Some (record { ty = ty; first = first; identity = n })) (let e : i ≡ i + zero = omega arith in e)
at_placed first i (ty ∷ g) (suc q) =
    at_placed first (suc i) g q ∙
    ap (λ n. option_map (λ t. record { ty = t; first = first; identity = n }) (slice_get g q)) (let e : suc i + q ≡ i + suc q = omega arith in e)

pub length_placed : (first i : ℕ) (g : List SubType) → length (placed first i g) ≡ length g
length_placed first i [] = refl
length_placed first i (ty ∷ g) = ap suc (length_placed first (suc i) g)

pub length_both : (xs ys : List Defined) → length (xs ++ ys) ≡ length xs + length ys
length_both [] ys = omega arith
length_both (x ∷ xs) ys = let e = length_both xs ys in omega (arith, e)

length_some : {A : Type 0} (xs : List A) (r : ℕ) → r ≤ length xs → length (take r xs) ≡ r
length_some xs zero p = refl
length_some [] (suc r) p = absurd (omega (arith, p))
length_some (x ∷ xs) (suc r) p = ap suc (length_some xs r (omega (arith, p)))

-- The types of a module without types.
pub none_ordered : AreOrdered []
none_ordered = record {
  kinds = λ i j e. refl;
  supers = λ i j e. refl;
  earlier = λ i s e. absurd (cc e);
  super_kinds = λ i s e. absurd (cc e);
  once = λ i. refl;
  first = λ i. omega arith;
}

module _ (types : List Defined) (ty : SubType) (place i : ℕ) (are : AreOrdered types) (may : MayIdentify types i ty) (fits : Extends types ty ty.supertype_idx) where
  abbrev pub new : Defined
  new = record { ty = ty; first = place; identity = i }

  super_at : (t : ℕ) (o : Option Defined) → slice_get types t ≡ o → MayExtend ty o → (t < length types) × (kind types t ≡ kind_of ty)
  super_at t None e m = absurd m
  super_at t (Some d) e m = (at_within types t d e, ap (option_and_then (λ (d : Defined). kind_of d.ty)) e ∙ m.1)

  super_of : (t : ℕ) → ty.supertype_idx ≡ Some t → (t < length types) × (kind types t ≡ kind_of ty)
  super_of t e = super_at t (slice_get types t) refl (subst (Extends types ty) e fits)

  pub ordered_more : AreOrdered (types ++ new ∷ [])
  ordered_more =
      one_more (identity types) (supertype types) (kind types) are (length types) i ty.supertype_idx (kind_of ty)
      (λ j p. (ap (identity_of j) (at_past types j p), ap (option_and_then (λ (d : Defined). d.ty.supertype_idx)) (at_past types j p)))
      (identity (types ++ new ∷ [])) (supertype (types ++ new ∷ [])) (kind (types ++ new ∷ []))
      (λ j ne. ap (identity_of j) (at_other types new j ne)) (ap (identity_of (length types)) (at_here types new))
      (λ j ne. ap (option_and_then (λ (d : Defined). d.ty.supertype_idx)) (at_other types new j ne))
      (ap (option_and_then (λ (d : Defined). d.ty.supertype_idx)) (at_here types new))
      (λ j ne. ap (option_and_then (λ (d : Defined). kind_of d.ty)) (at_other types new j ne))
      (ap (option_and_then (λ (d : Defined). kind_of d.ty)) (at_here types new))
      may.within may.itself may.same_kind may.same_super (λ t e. (super_of t e).0) (λ t e. (super_of t e).1)

alike_kind : (R : ℕ → ℕ → Type 0) (a b : CompositeInnerType) → AlikeInner R a b → kind_of_inner a ≡ kind_of_inner b
alike_kind R (inner.Func a) (inner.Func b) p = refl
alike_kind R (inner.Func a) (inner.Array b) p = absurd p
alike_kind R (inner.Func a) (inner.Struct b) p = absurd p
alike_kind R (inner.Func a) (inner.Cont b) p = absurd p
alike_kind R (inner.Array a) (inner.Func b) p = absurd p
alike_kind R (inner.Array a) (inner.Array b) p = refl
alike_kind R (inner.Array a) (inner.Struct b) p = absurd p
alike_kind R (inner.Array a) (inner.Cont b) p = absurd p
alike_kind R (inner.Struct a) (inner.Func b) p = absurd p
alike_kind R (inner.Struct a) (inner.Array b) p = absurd p
alike_kind R (inner.Struct a) (inner.Struct b) p = refl
alike_kind R (inner.Struct a) (inner.Cont b) p = absurd p
alike_kind R (inner.Cont a) (inner.Func b) p = absurd p
alike_kind R (inner.Cont a) (inner.Array b) p = absurd p
alike_kind R (inner.Cont a) (inner.Struct b) p = absurd p
alike_kind R (inner.Cont a) (inner.Cont b) p = refl

alike_super : (R : ℕ → ℕ → Type 0) (f : ℕ → ℕ) (o p : Option ℕ) → AlikeOptional R o p → ((x y : ℕ) → o ≡ Some x → p ≡ Some y → R x y → f x ≡ f y) → option_map f o ≡ option_map f p
alike_super R f None None a h = refl
alike_super R f None (Some y) a h = absurd a
alike_super R f (Some x) None a h = absurd a
alike_super R f (Some x) (Some y) a h = ap (λ n. Some n) (h x y refl refl a)

-- The first types of a group are added, with the identities of the first equal group.
module _ (old : List Defined) (are : AreOrdered old) (group : List SubType) (start : ℕ) (first : IsFirstEqual old group start)
    (r : ℕ) (ty : SubType) (here : slice_get group r ≡ Some ty) where
  pub so_far : List Defined
  so_far = old ++ placed (length old) start (take r group)

  size : length so_far ≡ length old + r
  unfolding so_far
  size =
      let p = at_within group r ty here in
      length_both old (placed (length old) start (take r group)) ∙
      ap (λ n. length old + n) (length_placed (length old) start (take r group) ∙ length_some group r (omega (arith, p)))

  identity_before : (x : ℕ) → x < length old → identity so_far x ≡ identity old x
  unfolding so_far
  identity_before x p = ap (identity_of x) (at_before old (placed (length old) start (take r group)) x p)

  -- A type of the group, once it is added.
  identity_added : (y q : ℕ) → y ≡ length old + q → q < r → identity so_far y ≡ start + q
  unfolding so_far
  identity_added y q e p =
      let w = at_within group r ty here in
      let t = at_there group q (omega (arith, p, w)) in
      ap (identity_of y) (at_after old (placed (length old) start (take r group)) y q e ∙ at_placed (length old) start (take r group) q ∙
      ap (option_map (λ ty. record { ty = ty; first = length old; identity = start + q })) (at_take group r q p ∙ t.1))

  -- The type in the same place of the first equal group.
  member_identity : (q : ℕ) (t : SubType) (o : Option Defined) → IsSameMember old start (start + q) t o → (x : ℕ) → identity_of x o ≡ start + q
  member_identity q t None m x = absurd m
  member_identity q t (Some d) m x = m.1

  module _ (later : start < length old) where
    same : IsSameGroup old start group
    same = first.found later

    identity_member : (q : ℕ) → q < r → identity old (start + q) ≡ start + q
    identity_member q p =
        let w = at_within group r ty here in
        let t = at_there group q (omega (arith, p, w)) in
        member_identity q t.0 (slice_get old (start + q)) (same.members q t.0 t.1) (start + q)

    same_use : (x y : ℕ) → x < start + r → start + r < length old → SameUse old start x y → identity so_far x ≡ identity so_far y
    same_use x y p w (inl (before, inside, e)) = identity_before x (omega (arith, p, w)) ∙ e ∙ sym (identity_before y before)
    same_use x y p w (inr (after, inside, e)) =
        let q = x - start in
        let x_is : x ≡ start + q = omega (arith, inside) in
        let small : q < r = omega (arith, p, inside) in
        identity_before x (omega (arith, p, w)) ∙ ap (identity old) x_is ∙ identity_member q small ∙
        sym (identity_added y q (omega (arith, after, e)) small)

    abbrev Facts : Type 0
    Facts =
        (identity so_far (start + r) ≡ start + r) × (kind so_far (start + r) ≡ kind_of ty) ×
        (option_map (identity so_far) (supertype so_far (start + r)) ≡ option_map (identity so_far) ty.supertype_idx)

    facts_at : (o : Option Defined) → slice_get old (start + r) ≡ o → IsSameMember old start (start + r) ty o → Facts
    unfolding so_far
    facts_at None e m = absurd m
    facts_at (Some d) e m =
        let w = at_within old (start + r) d e in
        let there : slice_get so_far (start + r) ≡ Some d = at_before old (placed (length old) start (take r group)) (start + r) w ∙ e in
        let al : Alike (SameUse old start) d.ty ty = m.2 in (
          ap (identity_of (start + r)) there ∙ m.1,
          ap (option_and_then (λ (d : Defined). kind_of d.ty)) there ∙ alike_kind (SameUse old start) d.ty.composite_type.inner ty.composite_type.inner al.composite,
          ap (λ o. option_map (identity so_far) (option_and_then (λ (d : Defined). d.ty.supertype_idx) o)) there ∙
              alike_super (SameUse old start) (identity so_far) d.ty.supertype_idx ty.supertype_idx al.super
              (λ x y f g u. same_use x y (are.earlier (start + r) x (ap (option_and_then (λ (d : Defined). d.ty.supertype_idx)) e ∙ f)) w u),
        )

    facts : Facts
    facts = facts_at (slice_get old (start + r)) refl (same.members r ty here)

  earlier_start : start + r < length so_far → start < length old
  earlier_start p = omega (arith, p, size)

  pub may_identify : MayIdentify so_far (start + r) ty
  may_identify = record {
    within = let w = first.within in omega (arith, w, size);
    itself = λ p. (facts (earlier_start p)).0;
    same_kind = λ p. (facts (earlier_start p)).1;
    same_super = λ p. (facts (earlier_start p)).2;
  }

take_first : {A : Type 0} (ys zs : List A) → take (length ys) (ys ++ zs) ≡ ys
take_first [] zs = refl
take_first (y ∷ ys) zs = ap (λ l. y ∷ l) (take_first ys zs)

of_first : (old : List Defined) (are : AreOrdered old) (group : List SubType) (start : ℕ) (first : IsFirstEqual old group start) (r : ℕ) (ty : SubType) →
    slice_get group r ≡ Some ty → MayIdentify (old ++ placed (length old) start (take r group)) (start + r) ty
unfolding so_far
of_first old are group start first r ty here = may_identify old are group start first r ty here

-- The same, of the types that a loop has added so far.
pub may_next : (old : List Defined) (are : AreOrdered old) (group : List SubType) (start : ℕ) (first : IsFirstEqual old group start)
    (ys : List SubType) (ty : SubType) (rest : List SubType) → group ≡ ys ++ ty ∷ rest →
    MayIdentify (old ++ placed (length old) start ys) (start + length ys) ty
may_next old are group start first ys ty rest e =
    subst (λ l. MayIdentify (old ++ placed (length old) start l) (start + length ys) ty) (ap (take (length ys)) e ∙ take_first ys (ty ∷ rest))
    (of_first old are group start first (length ys) ty (ap (λ l. slice_get l (length ys)) e ∙ at_after ys (ty ∷ rest) (length ys) 0 (omega arith)))

pub placed_more : (first i : ℕ) (ys : List SubType) (ty : SubType) → placed first i (ys ++ ty ∷ []) ≡ placed first i ys ++ record { ty = ty; first = first; identity = i + length ys } ∷ []
placed_more first i [] ty = ap (λ n. record { ty = ty; first = first; identity = n } ∷ []) (let e : i ≡ i + 0 = omega arith in e)
placed_more first i (y ∷ ys) ty =
    ap (λ l. record { ty = y; first = first; identity = i } ∷ l) (placed_more first (suc i) ys ty ∙
    ap (λ n. placed first (suc i) ys ++ record { ty = ty; first = first; identity = n } ∷ []) (let e : suc i + length ys ≡ i + suc (length ys) = omega arith in e))

-- The supertypes of a group, in two parts.
pub all_parts : (types : List Defined) (first i : ℕ) (ys zs : List SubType) → AllExtend types first i (ys ++ zs) →
    AllExtend types first i ys × AllExtend (types ++ placed first i ys) first (i + length ys) zs
all_parts types first i [] zs a =
    (tt, subst (λ l. AllExtend l first (i + 0) zs) (sym (append-nil types)) (subst (λ n. AllExtend types first n zs) (let e : i ≡ i + 0 = omega arith in e) a))
all_parts types first i (y ∷ ys) zs a =
    let new : Defined = record { ty = y; first = first; identity = i } in
    let p = all_parts (types ++ new ∷ []) first (suc i) ys zs a.1 in (
      (a.0, p.0),
      subst (λ l. AllExtend l first (i + suc (length ys)) zs) (append_assoc types (new ∷ []) (placed first (suc i) ys))
          (subst (λ n. AllExtend ((types ++ new ∷ []) ++ placed first (suc i) ys) first n zs) (let e : suc i + length ys ≡ i + suc (length ys) = omega arith in e) p.1),
    )

pub all_whole : (types : List Defined) (first i : ℕ) (ys zs : List SubType) → AllExtend types first i ys → AllExtend (types ++ placed first i ys) first (i + length ys) zs →
    AllExtend types first i (ys ++ zs)
all_whole types first i [] zs a b =
    subst (λ n. AllExtend types first n zs) (let e : i + 0 ≡ i = omega arith in e) (subst (λ l. AllExtend l first (i + 0) zs) (append-nil types) b)
all_whole types first i (y ∷ ys) zs a b =
    let new : Defined = record { ty = y; first = first; identity = i } in (
      a.0,
      all_whole (types ++ new ∷ []) first (suc i) ys zs a.1
          (subst (λ n. AllExtend ((types ++ new ∷ []) ++ placed first (suc i) ys) first n zs) (let e : i + suc (length ys) ≡ suc i + length ys = omega arith in e)
          (subst (λ l. AllExtend l first (i + suc (length ys)) zs) (sym (append_assoc types (new ∷ []) (placed first (suc i) ys))) b)),
    )

pub added_more : (old types next : List Defined) (start : ℕ) (ys : List SubType) (ty : SubType) (first i : ℕ) →
    types ≡ old ++ placed (length old) start ys → i ≡ start + length ys → first ≡ length old → next ≡ types ++ record { ty = ty; first = first; identity = i } ∷ [] →
    next ≡ old ++ placed (length old) start (ys ++ ty ∷ [])
added_more old types next start ys ty first i is same place pushed =
    pushed ∙ ap (λ l. l ++ record { ty = ty; first = first; identity = i } ∷ []) is ∙
    append_assoc old (placed (length old) start ys) (record { ty = ty; first = first; identity = i } ∷ []) ∙
    ap (λ n. old ++ (placed (length old) start ys ++ record { ty = ty; first = n; identity = i } ∷ [])) place ∙
    ap (λ n. old ++ (placed (length old) start ys ++ record { ty = ty; first = length old; identity = n } ∷ [])) same ∙
    ap (λ l. old ++ l) (sym (placed_more (length old) start ys ty))

first_unique : (types : List Defined) (group : List SubType) (s t : ℕ) → IsFirstEqual types group s → IsFirstEqual types group t → s ≡ t
first_unique types group s t a b = go (cases_order s t)
  where
    go : (s ≡ t) ⊎ ((s < t) ⊎ (t < s)) → s ≡ t
    go (inl e) = e
    go (inr (inl p)) = absurd (b.before s p (a.found (let w = b.within in omega (arith, p, w))))
    go (inr (inr p)) = absurd (a.before t p (b.found (let w = a.within in omega (arith, p, w))))

blames_more : (e : TypeError) (P Q : Type 0) → (Q → P) → Blames e P (Unit {0}) → Blames e Q (Unit {0})
blames_more error.OutOfMemory P Q h b = tt
blames_more error.TooManyTypes P Q h b = tt
blames_more error.Supertype P Q h b = λ q. b (h q)
blames_more error.Invalid P Q h b = b

-- An error before the types are tested.
pub blames_any : (e : TypeError) (P Q : Type 0) → Blames e P (Unit {0}) → Blames e P Q
blames_any error.OutOfMemory P Q b = tt
blames_any error.TooManyTypes P Q b = tt
blames_any error.Supertype P Q b = b
blames_any error.Invalid P Q b = absurd (b tt)

pub blames_group : (old types : List Defined) (group ys : List SubType) (ty : SubType) (rest : List SubType) (start : ℕ) (e : TypeError) →
    types ≡ old ++ placed (length old) start ys → group ≡ ys ++ ty ∷ rest → IsFirstEqual old group start → Blames e (Extends types ty ty.supertype_idx) (Unit {0}) →
    (s : ℕ) → IsFirstEqual old group s → Blames e (AllExtend old (length old) s group) (Unit {0})
blames_group old types group ys ty rest start e is whole first blames s other =
    subst (λ n. Blames e (AllExtend old (length old) n group) (Unit {0})) (first_unique old group start s first other)
    (blames_more e (Extends types ty ty.supertype_idx) (AllExtend old (length old) start group)
    (λ a. subst (λ l. Extends l ty ty.supertype_idx) (sym is)
    (all_parts old (length old) start ys (ty ∷ rest) (subst (AllExtend old (length old) start) whole a)).1.0) blames)

-- The types after a group was added are not valid.
pub blames_valid : (old next : List Defined) (group : List SubType) → Added old group next → (AreValid next (length old) → ⊥) →
    (s : ℕ) → IsFirstEqual old group s → AreValid (old ++ placed (length old) s group) (length old) → ⊥
blames_valid old next group added none s first valid =
    none (subst (λ l. AreValid l (length old)) (ap (λ n. old ++ placed (length old) n group) (first_unique old group s added.start first added.is_first) ∙ sym added.all) valid)

pub blamed : {X : Type 0} (result : Result X TypeError) {e : TypeError} (P : TypeError → Type 0) → IsErrAnd result (λ y. y ≡ e) → P e → IfErr result P
blamed (Ok x) P is h = absurd is
blamed (Err y) P is h = subst P (sym is) h
