-- Numbers in hexadecimal: the last digit follows the others.
use Rattle.std.proofs.Common.{◌≡◌, ℕ, ◌*◌, ◌/◌, ◌%◌, ◌^◌, ◌≤◌, ◌<◌, Bool, true, false, cond, List, [], ◌∷◌, ◌++◌, zero, suc, refl, sym, ap, ◌∙◌, arith, append_assoc, ne_eqb, pow-suc, inl, inr, ◌⊎◌}
use Rattle.std.specs.Prelude.{◌==◌}
use Rattle.std.specs.Fmt.{digit_glyph, digits_onto, digits}

-- A number is 0 or not.
decided : (n : ℕ) → ((n ≡ 0) × ((n == 0) ≡ true)) ⊎ ((0 < n) × ((n == 0) ≡ false))
decided zero = inl (refl, refl)
decided (suc n) = inr (omega arith, ne_eqb (suc n) 0 (λ e. omega (arith, e)))

last_digit : (k n : ℕ) (acc : List ℕ) → (n / 16 == 0) ≡ true → digits_onto (suc k) 16 false n acc ≡ digit_glyph false (n % 16) ∷ acc
last_digit k n acc e =
    ap (λ (b : Bool). cond b (digit_glyph false (n % 16) ∷ acc) (digits_onto k 16 false (n / 16) (digit_glyph false (n % 16) ∷ acc))) e

one_digit : (k n : ℕ) (acc : List ℕ) → (n / 16 == 0) ≡ false →
    digits_onto (suc k) 16 false n acc ≡ digits_onto k 16 false (n / 16) (digit_glyph false (n % 16) ∷ acc)
one_digit k n acc e =
    ap (λ (b : Bool). cond b (digit_glyph false (n % 16) ∷ acc) (digits_onto k 16 false (n / 16) (digit_glyph false (n % 16) ∷ acc))) e

-- The accumulated digits follow those of the number.
digits_before : (k n : ℕ) (acc : List ℕ) → digits_onto k 16 false n acc ≡ digits_onto k 16 false n [] ++ acc
digits_before zero n acc = refl
digits_before (suc k) n acc = elim (decided (n / 16)) [
  | inl first ↦ last_digit k n acc first.1 ∙ sym (ap (λ list. list ++ acc) (last_digit k n [] first.1))
  | inr other ↦
      let g = digit_glyph false (n % 16) in
      let front = digits_onto k 16 false (n / 16) [] in
      one_digit k n acc other.1 ∙ digits_before k (n / 16) (g ∷ acc) ∙ sym (append_assoc front (g ∷ []) acc) ∙
      sym (ap (λ list. list ++ acc) (one_digit k n [] other.1 ∙ digits_before k (n / 16) (g ∷ [])))
]

-- As many steps as there are digits suffice.
more_steps : (k n : ℕ) (acc : List ℕ) → n < 16 ^ suc k → digits_onto (suc k) 16 false n acc ≡ digits_onto (suc (suc k)) 16 false n acc
more_steps zero n acc few = elim (decided (n / 16)) [
  | inl first ↦ last_digit zero n acc first.1 ∙ sym (last_digit (suc zero) n acc first.1)
  | inr other ↦ absurd (omega (arith, few, other.0))
]
more_steps (suc k) n acc few = elim (decided (n / 16)) [
  | inl first ↦ last_digit (suc k) n acc first.1 ∙ sym (last_digit (suc (suc k)) n acc first.1)
  | inr other ↦
      let power : 16 ^ suc (suc k) ≡ 16 ^ suc k * 16 = pow-suc 16 (suc k) in
      let fewer : n / 16 < 16 ^ suc k = omega (arith, few, power) in
      one_digit (suc k) n acc other.1 ∙ more_steps k (n / 16) (digit_glyph false (n % 16) ∷ acc) fewer ∙ sym (one_digit (suc (suc k)) n acc other.1)
]

-- The last digit follows the others.
pub hexadecimal_step : (n : ℕ) → 16 ≤ n → n < 2 ^ 32 → digits 16 false n ≡ digits 16 false (n / 16) ++ digit_glyph false (n % 16) ∷ []
unfolding digits
hexadecimal_step n some few = elim (decided (n / 16)) [
  | inl first ↦ absurd (omega (arith, first.0, some))
  | inr other ↦
      let g = digit_glyph false (n % 16) in
      one_digit 63 n [] other.1 ∙ digits_before 63 (n / 16) (g ∷ []) ∙ ap (λ list. list ++ g ∷ []) (more_steps 62 (n / 16) [] (omega (arith, few)))
]
