use Rattle.std.proofs.Common.{◌≡◌, ℕ, zero, suc, ◌+◌, ◌<◌, List, [], ◌∷◌, ◌++◌, length, get_or, refl, sym, ap, ◌∙◌, arith}

-- The element at index `i`, with the elements before and after it.
pub record SplitsAt {X : Type 0} (xs : List X) (i : ℕ) (x : X) : Type 0 where
  pub before : List X
  pub after : List X
  pub parts : xs ≡ before ++ x ∷ after
  pub place : length before ≡ i

after_one : {X : Type 0} (xs : List X) (i : ℕ) (x y : X) → SplitsAt xs i x → SplitsAt (y ∷ xs) (suc i) x
after_one xs i x y h = record {
  before = y ∷ h.before;
  after = h.after;
  parts = ap (λ zs. y ∷ zs) h.parts;
  place = omega (arith, h.place);
}

pub splits_at : {X : Type 0} (xs : List X) (i : ℕ) (x : X) → i < length xs → x ≡ get_or xs i x → SplitsAt xs i x
splits_at [] i x few is = absurd (omega arith)
splits_at (y ∷ ys) zero x few is = record { before = []; after = ys; parts = ap (λ z. z ∷ ys) (sym is); place = refl }
splits_at (y ∷ ys) (suc i) x few is = after_one ys i x y (splits_at ys i x (omega arith) is)

pub record SplitsInto {X : Type 0} (xs : List X) (i : ℕ) (x y : X) : Type 0 where
  pub before : List X
  pub after : List X
  pub parts : xs ≡ before ++ x ∷ y ∷ after
  pub place : length before ≡ i

after_other : {X : Type 0} (xs : List X) (i : ℕ) (x y z : X) → SplitsInto xs i x y → SplitsInto (z ∷ xs) (suc i) x y
after_other xs i x y z h = record {
  before = z ∷ h.before;
  after = h.after;
  parts = ap (λ zs. z ∷ zs) h.parts;
  place = omega (arith, h.place);
}

pub splits_into : {X : Type 0} (xs : List X) (i j : ℕ) (x y : X) → j ≡ i + 1 → j < length xs → x ≡ get_or xs i x → y ≡ get_or xs j y → SplitsInto xs i x y
splits_into [] i j x y next few first second = absurd (omega arith)
splits_into (z ∷ zs) i zero x y next few first second = absurd (omega arith)
splits_into (z ∷ []) zero (suc j) x y next few first second = absurd (omega arith)
splits_into (z ∷ w ∷ zs) zero (suc zero) x y next few first second = record {
  before = [];
  after = zs;
  parts = ap (λ v. v ∷ w ∷ zs) (sym first) ∙ ap (λ v. x ∷ v ∷ zs) (sym second);
  place = refl;
}
splits_into (z ∷ w ∷ zs) zero (suc (suc j)) x y next few first second = absurd (omega arith)
splits_into (z ∷ zs) (suc i) (suc j) x y next few first second = after_other zs i x y z (splits_into zs i j x y (omega arith) (omega arith) first second)
