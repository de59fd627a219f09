use Rattle.std.proofs.Common.{◌≡◌, ℕ, zero, suc, ◌+◌, ◌-◌, ◌^◌, ◌<◌, List, [], ◌∷◌, length, min, refl, ap, arith, get_or, set}
use Rattle.wasm_disassembly.specs.ModuleCensus.{add_counts}

abbrev pub one_sum : ℕ → ℕ → ℕ
one_sum a b = min (a + b) (2 ^ 64 - 1)

-- The counts of which the first were added.
abbrev pub added_first : ℕ → List ℕ → List ℕ → List ℕ
added_first zero xs ys = xs
added_first (suc i) (x ∷ xs) (y ∷ ys) = one_sum x y ∷ added_first i xs ys
added_first (suc i) xs _ = xs

pub first_all : (i : ℕ) (xs ys : List ℕ) → length xs ≡ length ys → i ≡ length xs → added_first i xs ys ≡ add_counts xs ys
first_all zero [] [] e h = refl
first_all (suc i) [] [] e h = absurd (omega (arith, h))
first_all i (x ∷ xs) [] e h = absurd (omega (arith, e))
first_all i [] (y ∷ ys) e h = absurd (omega (arith, e))
first_all zero (x ∷ xs) (y ∷ ys) e h = absurd (omega (arith, h))
first_all (suc i) (x ∷ xs) (y ∷ ys) e h = ap (λ others. one_sum x y ∷ others) (first_all i xs ys (omega (arith, e)) (omega (arith, h)))

pub first_more : (i : ℕ) (xs ys : List ℕ) → length xs ≡ length ys → i < length xs →
    set (added_first i xs ys) i (one_sum (get_or (added_first i xs ys) i 0) (get_or ys i 0)) ≡ added_first (suc i) xs ys
first_more i [] ys e h = absurd (omega (arith, h))
first_more i (x ∷ xs) [] e h = absurd (omega (arith, e))
first_more zero (x ∷ xs) (y ∷ ys) e h = refl
first_more (suc i) (x ∷ xs) (y ∷ ys) e h = ap (λ others. one_sum x y ∷ others) (first_more i xs ys (omega (arith, e)) (omega (arith, h)))
