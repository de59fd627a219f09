-- A text that is written from its start, as far as it fits.
use Rattle.std.proofs.Common.{◌≡◌, ℕ, ◌≤◌, ◌<◌, List, [], ◌∷◌, length, take, set, get_or, zero, suc, refl, sym, ap, ◌∙◌, arith, inl, inr, ◌⊎◌}
use Rattle.std.specs.Prelude.{min}
use Rattle.std.proofs.lemmas.Bool.{cases_lt}
use Rattle.wasm_view.specs.Lists.{written}

-- No byte yet.
pub none_written : {X : Type 0} (text old : List X) → old ≡ written (take 0 text) old
none_written text [] = refl
none_written text (y ∷ ys) = refl

-- The next byte.
next_written : {X : Type 0} (text old : List X) (n : ℕ) (x : X) → n < length text → n < length old →
    set (written (take n text) old) n (get_or text n x) ≡ written (take (suc n) text) old
next_written [] old n x within room = absurd (omega (arith, within))
next_written (t ∷ ts) [] n x within room = absurd (omega (arith, room))
next_written (t ∷ ts) (y ∷ ys) zero x within room = ap (λ list. t ∷ list) (none_written ts ys)
next_written (t ∷ ts) (y ∷ ys) (suc n) x within room = ap (λ list. t ∷ list) (next_written ts ys n x (omega (arith, within)) (omega (arith, room)))

pub one_written : (text old now : List ℕ) (n after : ℕ) → now ≡ written (take n text) old → n < length text → n < length old → after ≡ suc n →
    set now n (get_or text n 0) ≡ written (take after text) old
one_written text old now n after is within room next =
    ap (λ list. set list n (get_or text n 0)) is ∙ next_written text old n 0 within room ∙ ap (λ m. written (take m text) old) (sym next)

-- The whole text, or as much as fits.
all_written : {X : Type 0} (text old : List X) (n : ℕ) → (n ≡ length text) ⊎ (n ≡ length old) → written (take n text) old ≡ written text old
all_written text [] n end = refl
all_written [] (y ∷ ys) zero end = refl
all_written [] (y ∷ ys) (suc n) end = refl
all_written (t ∷ ts) (y ∷ ys) zero (inl end) = absurd (omega (arith, end))
all_written (t ∷ ts) (y ∷ ys) zero (inr end) = absurd (omega (arith, end))
all_written (t ∷ ts) (y ∷ ys) (suc n) (inl end) = ap (λ list. t ∷ list) (all_written ts ys n (inl (omega (arith, end))))
all_written (t ∷ ts) (y ∷ ys) (suc n) (inr end) = ap (λ list. t ∷ list) (all_written ts ys n (inr (omega (arith, end))))

least : (n a b : ℕ) → n ≡ min a b → (a < b) ⊎ (b ≤ a) → (n ≡ a) ⊎ (n ≡ b)
least n a b is (inl lt) = inl (omega (arith, is, lt))
least n a b is (inr le) = inr (omega (arith, is, le))

pub room_written : {X : Type 0} (text old : List X) (n : ℕ) → n ≡ min (length text) (length old) → written (take n text) old ≡ written text old
room_written text old n is = all_written text old n (least n (length text) (length old) is (cases_lt (length text) (length old)))
