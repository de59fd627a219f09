-- Lists compared element by element.
use Rattle.std.proofs.Common.{◌≡◌, ℕ, suc, ◌+◌, ◌<◌, ◌≤◌, List, [], ◌∷◌, length, drop, get_or, Option, Some, ◌⊎◌, inl, inr, refl, sym, ap, subst, ◌∙◌, arith}
use Rattle.std.specs.List.{slice_get}
use Rattle.std.proofs.lemmas.Bool.{cases_lt}
use Rattle.std.proofs.lemmas.Option.{slice_get_read, slice_get_within}
use Rattle.std.proofs.Math.Seq.{drop-cons, drop-length}
use Rattle.wasm_subtypes.specs.Alike.{Each}

module _ {A : Type 0} (P : A → A → Type 0) where
  pub each_length : (a b : List A) → Each P a b → length a ≡ length b
  each_length [] [] e = refl
  each_length [] (y ∷ b) e = absurd e
  each_length (x ∷ a) [] e = absurd e
  each_length (x ∷ a) (y ∷ b) e = ap suc (each_length a b e.1)

  -- What is left to compare of two lists of the same length after the first elements.
  abbrev pub Left : List A → List A → ℕ → Type 0
  Left a b i = (Each P a b → Each P (drop i a) (drop i b)) × (Each P (drop i a) (drop i b) → Each P a b)

  pub left_first : (a b : List A) → Left a b 0
  left_first a b = ((λ e. e), (λ e. e))

  module _ (a b : List A) (same : length a ≡ length b) (i : ℕ) (within : i < length a) (x y : A) (is : get_or a i x ≡ x) (too : get_or b i y ≡ y) where
    first_of_a : drop i a ≡ x ∷ drop (suc i) a
    first_of_a = drop-cons a i x within ∙ ap (λ z. z ∷ drop (suc i) a) is

    first_of_b : drop i b ≡ y ∷ drop (suc i) b
    first_of_b = drop-cons b i y (omega (arith, within, same)) ∙ ap (λ z. z ∷ drop (suc i) b) too

    split : Each P (drop i a) (drop i b) → P x y × Each P (drop (suc i) a) (drop (suc i) b)
    split e = subst (Each P (x ∷ drop (suc i) a)) first_of_b (subst (λ l. Each P l (drop i b)) first_of_a e)

    join : P x y → Each P (drop (suc i) a) (drop (suc i) b) → Each P (drop i a) (drop i b)
    join p e = subst (λ l. Each P l (drop i b)) (sym first_of_a) (subst (Each P (x ∷ drop (suc i) a)) (sym first_of_b) (p, e))

    pub left_next : Left a b i → P x y → Left a b (i + 1)
    left_next left p =
        let n : suc i ≡ i + 1 = omega arith in
        subst (Left a b) n ((λ e. (split (left.0 e)).1), (λ e. left.1 (join p e)))

    pub left_differs : Left a b i → (P x y → ⊥) → Each P a b → ⊥
    left_differs left ne e = ne (split (left.0 e)).0

  pub left_none : (a b : List A) → length a ≡ length b → Left a b (length a) → Each P a b
  left_none a b same left =
      left.1 (subst (λ x. Each P x (drop (length a) b)) (sym (drop-length a))
      (subst (Each P []) (sym (ap (λ n. drop n b) same)) (subst (Each P []) (sym (drop-length b)) tt)))

-- What holds of each element of a list and the element in the same place of another, if it has one.
module _ {A B : Type 0} (Q : Option A → B → Type 0) (as_ : List A) (bs : List B) where
  pub one_more_fits : (n : ℕ) (got : Option A) (b : B) → ((k : ℕ) (x : B) → k < n → slice_get bs k ≡ Some x → Q (slice_get as_ k) x) →
      n < length bs → b ≡ get_or bs n b → got ≡ slice_get as_ n → Q got b →
      (k : ℕ) (x : B) → k < n + 1 → slice_get bs k ≡ Some x → Q (slice_get as_ k) x
  one_more_fits n got b before within is found fits k x p e = go (cases_lt k n)
    where
      go : (k < n) ⊎ (n ≤ k) → Q (slice_get as_ k) x
      go (inl q) = before k x q e
      go (inr q) =
          let same : k ≡ n = omega (arith, p, q) in
          let there : slice_get bs n ≡ Some b = slice_get_read bs (length bs) n b refl within is in
          let here : Some b ≡ Some x = sym there ∙ ap (slice_get bs) (sym same) ∙ e in
          let y : b ≡ x = cc here in
          subst (λ j. Q (slice_get as_ j) x) (sym same) (subst (λ z. Q (slice_get as_ n) z) y (subst (λ o. Q o b) found fits))

  pub one_differs : (n : ℕ) (got : Option A) (b : B) → n < length bs → b ≡ get_or bs n b → got ≡ slice_get as_ n → (Q got b → ⊥) →
      ((k : ℕ) (x : B) → slice_get bs k ≡ Some x → Q (slice_get as_ k) x) → ⊥
  one_differs n got b within is found none all = none (subst (λ o. Q o b) (sym found) (all n b (slice_get_read bs (length bs) n b refl within is)))

  pub all_fit : (n : ℕ) → length bs ≤ n → ((k : ℕ) (x : B) → k < n → slice_get bs k ≡ Some x → Q (slice_get as_ k) x) →
      (k : ℕ) (x : B) → slice_get bs k ≡ Some x → Q (slice_get as_ k) x
  all_fit n p before k x e = before k x (let q = slice_get_within bs k x e in omega (arith, p, q)) e
