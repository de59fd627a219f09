use Rattle.std.proofs.Common.{◌≡◌, ℕ, ◌+◌, ◌<◌, List, [], ◌∷◌, ◌++◌, length, min, arith, length-append}
use Rattle.wasm_operators.specs.below.Number.{EncodesUnsigned}

fits_4 : (bs : List ℕ) (n : ℕ) → EncodesUnsigned 4 bs n → n < 16
fits_4 [] n p = absurd p
fits_4 (c ∷ []) n (low, is, fits) = fits
fits_4 (c ∷ d ∷ bs) n (wide, from, to, high, is, after) = absurd (omega (arith, wide))

fits_11 : (bs : List ℕ) (n : ℕ) → EncodesUnsigned 11 bs n → n < 2048
fits_11 [] n p = absurd p
fits_11 (c ∷ []) n (low, is, fits) = fits
fits_11 (c ∷ d ∷ bs) n (wide, from, to, high, is, after) = let h = fits_4 (d ∷ bs) high after in omega (arith, h, is, to)

fits_18 : (bs : List ℕ) (n : ℕ) → EncodesUnsigned 18 bs n → n < 262144
fits_18 [] n p = absurd p
fits_18 (c ∷ []) n (low, is, fits) = fits
fits_18 (c ∷ d ∷ bs) n (wide, from, to, high, is, after) = let h = fits_11 (d ∷ bs) high after in omega (arith, h, is, to)

fits_25 : (bs : List ℕ) (n : ℕ) → EncodesUnsigned 25 bs n → n < 33554432
fits_25 [] n p = absurd p
fits_25 (c ∷ []) n (low, is, fits) = fits
fits_25 (c ∷ d ∷ bs) n (wide, from, to, high, is, after) = let h = fits_18 (d ∷ bs) high after in omega (arith, h, is, to)

pub fits_32 : (bs : List ℕ) (n : ℕ) → EncodesUnsigned 32 bs n → n < 4294967296
fits_32 [] n p = absurd p
fits_32 (c ∷ []) n (low, is, fits) = fits
fits_32 (c ∷ d ∷ bs) n (wide, from, to, high, is, after) = let h = fits_25 (d ∷ bs) high after in omega (arith, h, is, to)

pub place_more : {X : Type 0} (xs : List X) (x : X) (place next left fewer all : ℕ) → place ≡ length xs → length xs + left ≡ all → left ≡ fewer + 1 →
    all < 4294967296 → next ≡ min (place + 1) 4294967295 → next ≡ length (xs ++ x ∷ [])
place_more xs x place next left fewer all is sum one fits next_is =
    let longer = length-append xs (x ∷ []) in omega (arith, is, sum, one, fits, next_is, longer)

pub fewer_left : {X : Type 0} (xs : List X) (x : X) (left fewer all : ℕ) → length xs + left ≡ all → left ≡ fewer + 1 → length (xs ++ x ∷ []) + fewer ≡ all
fewer_left xs x left fewer all sum one = let longer = length-append xs (x ∷ []) in omega (arith, sum, one, longer)
