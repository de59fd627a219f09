-- Types stay ordered if one more is added that may have its identity and its supertype.
use Rattle.std.proofs.Common.{◌≡◌, ℕ, ◌<◌, ◌≤◌, Option, Some, None, ◌⊎◌, inl, inr, refl, sym, ap, ◌∙◌, arith}
use Rattle.std.specs.Option.{option_map}
use Rattle.std.proofs.lemmas.Bool.{cases_order, cases_lt}
use Rattle.wasm_typing.specs.Matching.{CompositeKind}
use Rattle.wasm_subtypes.specs.Descent.{AreDeclared}

pub either : (i n : ℕ) → (i ≡ n) ⊎ (i ≡ n → ⊥)
either i n = go (cases_order i n)
  where
    go : (i ≡ n) ⊎ ((i < n) ⊎ (n < i)) → (i ≡ n) ⊎ (i ≡ n → ⊥)
    go (inl e) = inl e
    go (inr (inl p)) = inr (λ e. omega (arith, e, p))
    go (inr (inr p)) = inr (λ e. omega (arith, e, p))

-- `n` is the number of types before. The new type has the identity `c`, the supertype `s` and the kind `k`.
module _ (identity : ℕ → ℕ) (super : ℕ → Option ℕ) (kind : ℕ → Option CompositeKind) (are : AreDeclared identity super kind)
    (n c : ℕ) (s : Option ℕ) (k : Option CompositeKind)
    (free : (i : ℕ) → n ≤ i → (identity i ≡ i) × (super i ≡ None))
    (identity' : ℕ → ℕ) (super' : ℕ → Option ℕ) (kind' : ℕ → Option CompositeKind)
    (identity_other : (i : ℕ) → (i ≡ n → ⊥) → identity' i ≡ identity i) (identity_here : identity' n ≡ c)
    (super_other : (i : ℕ) → (i ≡ n → ⊥) → super' i ≡ super i) (super_here : super' n ≡ s)
    (kind_other : (i : ℕ) → (i ≡ n → ⊥) → kind' i ≡ kind i) (kind_here : kind' n ≡ k)
    (within : c ≤ n) (itself : c < n → identity c ≡ c) (same_kind : c < n → kind c ≡ k)
    (same_super : c < n → option_map identity (super c) ≡ option_map identity s)
    (super_before : (t : ℕ) → s ≡ Some t → t < n) (super_kind : (t : ℕ) → s ≡ Some t → kind t ≡ k) where
  -- A supertype is not the new type.
  not_new : (i t : ℕ) → super i ≡ Some t → t ≡ n → ⊥
  not_new i t e f = go (cases_lt i n)
    where
      go : (i < n) ⊎ (n ≤ i) → ⊥
      go (inl p) = let q = are.earlier i t e in omega (arith, p, q, f)
      go (inr p) = let q : None ≡ Some t = sym ((free i p).1) ∙ e in cc q

  optional : (o : Option ℕ) → ((t : ℕ) → o ≡ Some t → t ≡ n → ⊥) → option_map identity' o ≡ option_map identity o
  optional None h = refl
  optional (Some t) h = ap (λ x. Some x) (identity_other t (h t refl))

  of_other : (i : ℕ) → (i ≡ n → ⊥) → option_map identity' (super' i) ≡ option_map identity (super i)
  of_other i ne = ap (option_map identity') (super_other i ne) ∙ optional (super i) (λ t e. not_new i t e)

  of_new : option_map identity' (super' n) ≡ option_map identity s
  of_new = ap (option_map identity') super_here ∙ optional s (λ t e f. let q = super_before t e in omega (arith, q, f))

  -- Another type with the identity of the new one.
  meets : (j : ℕ) → (j ≡ n → ⊥) → c ≡ identity j → (c < n) × (identity c ≡ identity j)
  meets j ne e = go (cases_lt c n)
    where
      go : (c < n) ⊎ (n ≤ c) → (c < n) × (identity c ≡ identity j)
      go (inl p) = (p, itself p ∙ e)
      go (inr p) =
          let q = are.first j in
          let f : identity j ≡ j = (free j (omega (arith, p, q, e))).0 in
          absurd (ne (omega (arith, p, within, e, f)))

  kinds_with : (j : ℕ) → (j ≡ n → ⊥) → c ≡ identity j → k ≡ kind j
  kinds_with j ne e = let m = meets j ne e in sym (same_kind m.0) ∙ are.kinds c j m.1

  supers_with : (j : ℕ) → (j ≡ n → ⊥) → c ≡ identity j → option_map identity s ≡ option_map identity (super j)
  supers_with j ne e = let m = meets j ne e in sym (same_super m.0) ∙ are.supers c j m.1

  kinds_now : (i j : ℕ) → (i ≡ n) ⊎ (i ≡ n → ⊥) → (j ≡ n) ⊎ (j ≡ n → ⊥) → identity' i ≡ identity' j → kind' i ≡ kind' j
  kinds_now i j (inl p) (inl q) e = ap kind' (p ∙ sym q)
  kinds_now i j (inl p) (inr q) e =
      ap kind' p ∙ kind_here ∙ kinds_with j q (sym identity_here ∙ ap identity' (sym p) ∙ e ∙ identity_other j q) ∙ sym (kind_other j q)
  kinds_now i j (inr p) (inl q) e =
      kind_other i p ∙ sym (kinds_with i p (sym identity_here ∙ ap identity' (sym q) ∙ sym e ∙ identity_other i p)) ∙ sym kind_here ∙ ap kind' (sym q)
  kinds_now i j (inr p) (inr q) e = kind_other i p ∙ are.kinds i j (sym (identity_other i p) ∙ e ∙ identity_other j q) ∙ sym (kind_other j q)

  supers_now : (i j : ℕ) → (i ≡ n) ⊎ (i ≡ n → ⊥) → (j ≡ n) ⊎ (j ≡ n → ⊥) → identity' i ≡ identity' j →
      option_map identity' (super' i) ≡ option_map identity' (super' j)
  supers_now i j (inl p) (inl q) e = ap (λ x. option_map identity' (super' x)) (p ∙ sym q)
  supers_now i j (inl p) (inr q) e =
      ap (λ x. option_map identity' (super' x)) p ∙ of_new ∙
      supers_with j q (sym identity_here ∙ ap identity' (sym p) ∙ e ∙ identity_other j q) ∙ sym (of_other j q)
  supers_now i j (inr p) (inl q) e =
      of_other i p ∙ sym (supers_with i p (sym identity_here ∙ ap identity' (sym q) ∙ sym e ∙ identity_other i p)) ∙ sym of_new ∙
      ap (λ x. option_map identity' (super' x)) (sym q)
  supers_now i j (inr p) (inr q) e = of_other i p ∙ are.supers i j (sym (identity_other i p) ∙ e ∙ identity_other j q) ∙ sym (of_other j q)

  earlier_now : (i t : ℕ) → (i ≡ n) ⊎ (i ≡ n → ⊥) → super' i ≡ Some t → t < i
  earlier_now i t (inl p) e = let q = super_before t (sym super_here ∙ ap super' (sym p) ∙ e) in omega (arith, p, q)
  earlier_now i t (inr p) e = are.earlier i t (sym (super_other i p) ∙ e)

  super_kinds_now : (i t : ℕ) → (i ≡ n) ⊎ (i ≡ n → ⊥) → super' i ≡ Some t → kind' i ≡ kind' t
  super_kinds_now i t (inl p) e =
      let f : s ≡ Some t = sym super_here ∙ ap super' (sym p) ∙ e in
      let q = super_before t f in
      ap kind' p ∙ kind_here ∙ sym (super_kind t f) ∙ sym (kind_other t (λ g. omega (arith, g, q)))
  super_kinds_now i t (inr p) e =
      let f : super i ≡ Some t = sym (super_other i p) ∙ e in
      kind_other i p ∙ are.super_kinds i t f ∙ sym (kind_other t (not_new i t f))

  itself_now : identity' c ≡ c
  itself_now = go (cases_lt c n)
    where
      go : (c < n) ⊎ (n ≤ c) → identity' c ≡ c
      go (inl p) = identity_other c (λ e. omega (arith, e, p)) ∙ itself p
      go (inr p) = let e : c ≡ n = omega (arith, p, within) in ap identity' e ∙ identity_here

  not_here : (i : ℕ) → (i ≡ n → ⊥) → identity i ≡ n → ⊥
  not_here i ne e =
      let q = are.first i in
      let f : identity i ≡ i = (free i (omega (arith, q, e))).0 in
      ne (omega (arith, e, f))

  once_now : (i : ℕ) → (i ≡ n) ⊎ (i ≡ n → ⊥) → identity' (identity' i) ≡ identity' i
  once_now i (inl p) =
      let e : identity' i ≡ c = ap identity' p ∙ identity_here in
      ap identity' e ∙ itself_now ∙ sym e
  once_now i (inr p) =
      let e : identity' i ≡ identity i = identity_other i p in
      ap identity' e ∙ identity_other (identity i) (not_here i p) ∙ are.once i ∙ sym e

  first_now : (i : ℕ) → (i ≡ n) ⊎ (i ≡ n → ⊥) → identity' i ≤ i
  first_now i (inl p) = let e : identity' i ≡ c = ap identity' p ∙ identity_here in omega (arith, e, p, within)
  first_now i (inr p) = let e = identity_other i p in let q = are.first i in omega (arith, e, q)

  pub one_more : AreDeclared identity' super' kind'
  one_more = record {
    kinds = λ i j e. kinds_now i j (either i n) (either j n) e;
    supers = λ i j e. supers_now i j (either i n) (either j n) e;
    earlier = λ i t e. earlier_now i t (either i n) e;
    super_kinds = λ i t e. super_kinds_now i t (either i n) e;
    once = λ i. once_now i (either i n);
    first = λ i. first_now i (either i n);
  }
