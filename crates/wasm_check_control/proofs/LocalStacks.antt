-- Locals, each with a place: the test whether one is among them, and one more.
use Rattle.std.proofs.Common.{◌≡◌, ℕ, zero, suc, ◌+◌, ◌<◌, ◌≤◌, Bool, true, false, ◌||◌, List, [], ◌∷◌, ◌++◌, length, take, set, reverse, get_or, ◌⊎◌, inl, inr, refl, sym, ap, subst, ◌∙◌, arith}
use Rattle.std.specs.Prelude.{nat_eq}
use Rattle.std.proofs.lemmas.List.{reverse-append, length-append, get_or_append_left, get_or-set_same, get_or-set_other, length-set}
use Rattle.std.proofs.Math.Seq.{get_or-append_seam}
use Rattle.std.proofs.lemmas.Bool.{eqb-true, eq-eqb, cases_lt}
use Rattle.wasm_typing.specs.Rules.{is_member}
use Rattle.wasm_check_control.specs.SetLocals.{ArePlaced}

or_assoc : (a b c : Bool) → (a || (b || c)) ≡ ((a || b) || c)
or_assoc true b c = refl
or_assoc false b c = refl

or_last : (a b : Bool) → (a || (b || false)) ≡ (b || a)
or_last true true = refl
or_last true false = refl
or_last false true = refl
or_last false false = refl

or_true : (a : Bool) → (a || true) ≡ true
or_true true = refl
or_true false = refl

one_of : (a b : Bool) → (a || b) ≡ true → (a ≡ true) ⊎ (b ≡ true)
one_of true b e = inl refl
one_of false b e = inr e

pub is_false : (b : Bool) → (b ≡ true → ⊥) → b ≡ false
is_false true n = absurd (n refl)
is_false false n = refl

member_append : (x : ℕ) (xs ys : List ℕ) → is_member x (xs ++ ys) ≡ (is_member x xs || is_member x ys)
member_append x [] ys = refl
member_append x (z ∷ xs) ys = ap (λ b. nat_eq x z || b) (member_append x xs ys) ∙ or_assoc (nat_eq x z) (is_member x xs) (is_member x ys)

member_reverse : (x : ℕ) (xs : List ℕ) → is_member x (reverse xs) ≡ is_member x xs
member_reverse x [] = refl
member_reverse x (y ∷ xs) =
    ap (is_member x) (reverse-append (y ∷ []) xs) ∙ member_append x (reverse xs) (y ∷ []) ∙ or_last (is_member x (reverse xs)) (nat_eq x y) ∙
    ap (λ b. nat_eq x y || b) (member_reverse x xs)

member_at : (x : ℕ) (xs : List ℕ) (i : ℕ) → i < length xs → get_or xs i 0 ≡ x → is_member x xs ≡ true
member_at x [] i p e = absurd (omega (arith, p))
member_at x (y ∷ xs) zero p e = ap (λ b. b || is_member x xs) (eq-eqb x y (sym e))
member_at x (y ∷ xs) (suc i) p e = ap (λ b. nat_eq x y || b) (member_at x xs i (omega (arith, p)) e) ∙ or_true (nat_eq x y)

abbrev At : ℕ → List ℕ → Type 0
At x xs = (i : ℕ) × (i < length xs) × (get_or xs i 0 ≡ x)

at_either : (x y : ℕ) (xs : List ℕ) → (is_member x xs ≡ true → At x xs) → (nat_eq x y ≡ true) ⊎ (is_member x xs ≡ true) → At x (y ∷ xs)
at_either x y xs later (inl e) = (zero, omega arith, sym (eqb-true x y e))
at_either x y xs later (inr e) = let m = later e in (suc m.0, (let p = m.1 in omega (arith, p)), m.2)

at_member : (x : ℕ) (xs : List ℕ) → is_member x xs ≡ true → At x xs
at_member x [] e = absurd (cc e)
at_member x (y ∷ xs) e = at_either x y xs (λ h. at_member x xs h) (one_of (nat_eq x y) (is_member x xs) e)

pub any_default : {A : Type 0} (xs : List A) (i : ℕ) (a b : A) → i < length xs → get_or xs i a ≡ get_or xs i b
any_default [] i a b p = absurd (omega (arith, p))
any_default (x ∷ xs) zero a b p = refl
any_default (x ∷ xs) (suc i) a b p = any_default xs i a b (omega (arith, p))

at_take : (xs : List ℕ) (n i : ℕ) → i < length (take n xs) → (i < length xs) × (get_or (take n xs) i 0 ≡ get_or xs i 0)
at_take [] zero i p = absurd (omega (arith, p))
at_take [] (suc n) i p = absurd (omega (arith, p))
at_take (y ∷ xs) zero i p = absurd (omega (arith, p))
at_take (y ∷ xs) (suc n) zero p = (omega arith, refl)
at_take (y ∷ xs) (suc n) (suc i) p = let h = at_take xs n i (omega (arith, p)) in ((let q = h.0 in omega (arith, q)), h.1)

module _ (locals places : List ℕ) (are : ArePlaced locals places) where
  -- More places.
  pub placed_more : (long : List ℕ) → ((i : ℕ) → get_or long i 0 ≡ get_or places i 0) → length places ≤ length long → ArePlaced locals long
  placed_more long same more = λ i p.
      let h = are i p in
      let e = same (get_or locals i 0) in
      let a = h.0 in
      let b = h.1 in
      (omega (arith, a, more), omega (arith, b, e), ap (λ q. get_or locals q 0) e ∙ h.2)

  pub placed_take : (n : ℕ) → ArePlaced (take n locals) places
  placed_take n = λ i p. go i p
    where
      go : (i : ℕ) → i < length (take n locals) →
          (get_or (take n locals) i 0 < length places) × (get_or places (get_or (take n locals) i 0) 0 ≤ i) ×
          (get_or (take n locals) (get_or places (get_or (take n locals) i 0) 0) 0 ≡ get_or (take n locals) i 0)
      go i p =
          let a = at_take locals n i p in
          let h = are i a.0 in
          let low = h.1 in
          let b = at_take locals n (get_or places (get_or locals i 0) 0) (omega (arith, low, p)) in
          subst (λ y. (y < length places) × (get_or places y 0 ≤ i) × (get_or (take n locals) (get_or places y 0) 0 ≡ y)) (sym a.1)
          (h.0, h.1, b.1 ∙ h.2)

module _ (locals places : List ℕ) (are : ArePlaced locals places) (x : ℕ) where
  -- A local in the list has a place there.
  pub has_place : is_member x (reverse locals) ≡ true → (x < length places) × (get_or places x 0 < length locals) × (get_or locals (get_or places x 0) 0 ≡ x)
  has_place e =
      let m = at_member x locals (sym (member_reverse x locals) ∙ e) in
      let h = are m.0 m.1 in
      let low : get_or places x 0 ≤ m.0 = subst (λ y. get_or places y 0 ≤ m.0) m.2 h.1 in
      let p = m.1 in
      (subst (λ y. y < length places) m.2 h.0, omega (arith, low, p), subst (λ y. get_or locals (get_or places y 0) 0 ≡ y) m.2 h.2)

  pub without_place : length places ≤ x → false ≡ is_member x (reverse locals)
  without_place p = sym (is_false (is_member x (reverse locals)) (λ e. let h = (has_place e).0 in omega (arith, h, p)))

  pub past_end : (place : ℕ) → get_or places x 0 ≡ place → length locals ≤ place → false ≡ is_member x (reverse locals)
  past_end place is p = sym (is_false (is_member x (reverse locals)) (λ e. let h = (has_place e).1 in omega (arith, h, p, is)))

  pub other_there : (place y : ℕ) → get_or places x 0 ≡ place → get_or locals place 0 ≡ y → (y ≡ x → ⊥) → is_member x (reverse locals) ≡ false
  other_there place y is found n =
      is_false (is_member x (reverse locals)) (λ e. n (sym found ∙ ap (λ p. get_or locals p 0) (sym is) ∙ (has_place e).2))

  pub in_place : (place y : ℕ) → place < length locals → get_or locals place 0 ≡ y → get_or places x 0 ≡ place → nat_eq y x ≡ is_member x (reverse locals)
  in_place place y p found is = go (nat_eq y x) refl
    where
      go : (b : Bool) → nat_eq y x ≡ b → b ≡ is_member x (reverse locals)
      go true e = sym (member_reverse x locals ∙ member_at x locals place p (found ∙ eqb-true y x e))
      go false e = sym (other_there place y is found (λ h. absurd (cc (sym (eq-eqb y x h) ∙ e))))

  pub placed_again : is_member x (reverse locals) ≡ true → ArePlaced (locals ++ x ∷ []) places
  placed_again e = λ i p. go i (cases_lt i (length locals)) p
    where
      kept : (j : ℕ) → j < length locals → get_or (locals ++ x ∷ []) j 0 ≡ get_or locals j 0
      kept j q = get_or_append_left locals (x ∷ []) 0 j q

      go : (i : ℕ) → (i < length locals) ⊎ (length locals ≤ i) → i < length (locals ++ x ∷ []) →
          (get_or (locals ++ x ∷ []) i 0 < length places) × (get_or places (get_or (locals ++ x ∷ []) i 0) 0 ≤ i) ×
          (get_or (locals ++ x ∷ []) (get_or places (get_or (locals ++ x ∷ []) i 0) 0) 0 ≡ get_or (locals ++ x ∷ []) i 0)
      go i (inl q) p =
          let h = are i q in
          let low = h.1 in
          subst (λ y. (y < length places) × (get_or places y 0 ≤ i) × (get_or (locals ++ x ∷ []) (get_or places y 0) 0 ≡ y)) (sym (kept i q))
          (h.0, h.1, kept (get_or places (get_or locals i 0) 0) (omega (arith, low, q)) ∙ h.2)
      go i (inr q) p =
          let n = length-append locals (x ∷ []) in
          let at : i ≡ length locals = omega (arith, p, q, n) in
          let here : get_or (locals ++ x ∷ []) i 0 ≡ x = ap (λ k. get_or (locals ++ x ∷ []) k 0) at ∙ get_or-append_seam locals x [] 0 in
          let h = has_place e in
          let low = h.1 in
          subst (λ y. (y < length places) × (get_or places y 0 ≤ i) × (get_or (locals ++ x ∷ []) (get_or places y 0) 0 ≡ y)) (sym here)
          (h.0, omega (arith, low, q), kept (get_or places x 0) h.1 ∙ h.2)

  pub placed_new : is_member x (reverse locals) ≡ false → x < length places → ArePlaced (locals ++ x ∷ []) (set places x (length locals))
  placed_new none within = λ i p. go i (cases_lt i (length locals)) p
    where
      kept : (j : ℕ) → j < length locals → get_or (locals ++ x ∷ []) j 0 ≡ get_or locals j 0
      kept j q = get_or_append_left locals (x ∷ []) 0 j q

      other : (i : ℕ) → i < length locals → get_or locals i 0 ≡ x → ⊥
      other i q e = absurd (cc (sym (member_reverse x locals ∙ member_at x locals i q e) ∙ none))

      go : (i : ℕ) → (i < length locals) ⊎ (length locals ≤ i) → i < length (locals ++ x ∷ []) →
          (get_or (locals ++ x ∷ []) i 0 < length (set places x (length locals))) × (get_or (set places x (length locals)) (get_or (locals ++ x ∷ []) i 0) 0 ≤ i) ×
          (get_or (locals ++ x ∷ []) (get_or (set places x (length locals)) (get_or (locals ++ x ∷ []) i 0) 0) 0 ≡ get_or (locals ++ x ∷ []) i 0)
      go i (inl q) p =
          let h = are i q in
          let low = h.1 in
          let fits = h.0 in
          let n = length-set places x (length locals) in
          let o : get_or (set places x (length locals)) (get_or locals i 0) 0 ≡ get_or places (get_or locals i 0) 0 = get_or-set_other places x (get_or locals i 0) (length locals) 0 (other i q) in
          subst (λ y. (y < length (set places x (length locals))) × (get_or (set places x (length locals)) y 0 ≤ i) ×
          (get_or (locals ++ x ∷ []) (get_or (set places x (length locals)) y 0) 0 ≡ y)) (sym (kept i q)) (
            omega (arith, fits, n),
            omega (arith, low, o),
            ap (λ k. get_or (locals ++ x ∷ []) k 0) o ∙ kept (get_or places (get_or locals i 0) 0) (omega (arith, low, q)) ∙ h.2,
          )
      go i (inr q) p =
          let m = length-append locals (x ∷ []) in
          let n = length-set places x (length locals) in
          let at : i ≡ length locals = omega (arith, p, q, m) in
          let here : get_or (locals ++ x ∷ []) i 0 ≡ x = ap (λ k. get_or (locals ++ x ∷ []) k 0) at ∙ get_or-append_seam locals x [] 0 in
          let o : get_or (set places x (length locals)) x 0 ≡ length locals = get_or-set_same places x (length locals) 0 within in
          subst (λ y. (y < length (set places x (length locals))) × (get_or (set places x (length locals)) y 0 ≤ i) ×
          (get_or (locals ++ x ∷ []) (get_or (set places x (length locals)) y 0) 0 ≡ y)) (sym here)
          (omega (arith, within, n), omega (arith, o, q), ap (λ k. get_or (locals ++ x ∷ []) k 0) o ∙ get_or-append_seam locals x [] 0)
