-- Pieces of an array, put one after another.
use Rattle.std.proofs.Common.{◌≡◌, ℕ, zero, suc, ◌-◌, ◌<◌, ◌≤◌, ◌⊎◌, inl, inr, List, [], ◌∷◌, ◌++◌, length, take, drop, refl, sym, ap, ◌∙◌, append_assoc, append-nil, arith, length-append}
use Rattle.std.specs.Prelude.{min}
use Rattle.std.proofs.lemmas.Bool.{cases_lt}
use Rattle.std.proofs.lemmas.List.{drop_all, take_all}
use borrow.Rule.Slice.PartMut.{post_of, put_mid}
use Rattle.wasm_view.specs.Lists.{written}
use Rattle.wasm_view.proofs.Placed.{written_none, written_length}
use Rattle.wasm_encode_view.specs.Sections.{Puts}

written_full : (items more old : List ℕ) → length old ≤ length items → written items old ≡ written (items ++ more) old
written_full items more [] full = refl
written_full [] more (y ∷ ys) full = absurd (omega (arith, full))
written_full (i ∷ is) more (y ∷ ys) full = ap (λ list. i ∷ list) (written_full is more ys (omega (arith, full)))

written_beyond : (before piece room : List ℕ) → length before ≤ length room →
    take (length before) (written before room) ++ written piece (drop (length before) (written before room)) ≡ written (before ++ piece) room
written_beyond [] piece room fits = ap (λ list. written piece list) (written_none room)
written_beyond (x ∷ xs) piece [] fits = absurd (omega (arith, fits))
written_beyond (x ∷ xs) piece (y ∷ ys) fits = ap (λ list. x ∷ list) (written_beyond xs piece ys (omega (arith, fits)))

-- The bytes are written from the index on.
pub put_there : (before piece room old tail : List ℕ) (at : ℕ) → at ≡ length before → old ≡ written before room → at < length old → tail ≡ written piece (take (length old - at) (drop at old)) →
    put_mid at (length old - at) old tail ≡ written (before ++ piece) room
put_there before piece room old tail at place is within put =
    let long : length old ≡ length room = ap length is ∙ written_length before room in
    let short = length_dropped old at (omega (arith, within)) in
    let none : post_of at (length old - at) old ≡ [] = drop_all (length old - at) (drop at old) short in
    let all = take_all (length old - at) (drop at old) short in
    ap (λ list. take at old ++ (tail ++ list)) none ∙ ap (λ list. take at old ++ list) (append-nil tail ∙ put ∙ ap (λ rest. written piece rest) all) ∙
    ap (λ n. take n old ++ written piece (drop n old)) place ∙ ap (λ list. take (length before) list ++ written piece (drop (length before) list)) is ∙
    written_beyond before piece room (omega (arith, within, place, long))
  where
    length_dropped : (list : List ℕ) (n : ℕ) → n ≤ length list → length (drop n list) ≤ length list - n
    length_dropped list zero le = omega arith
    length_dropped [] (suc n) le = absurd (omega (arith, le))
    length_dropped (x ∷ xs) (suc n) le = let l = length_dropped xs n (omega (arith, le)) in omega (arith, l)

-- The index is past the end.
pub put_past : (before piece room old : List ℕ) (at : ℕ) → at ≡ length before → old ≡ written before room → length old ≤ at → old ≡ written (before ++ piece) room
put_past before piece room old at place is past =
    let long : length old ≡ length room = ap length is ∙ written_length before room in
    is ∙ written_full before piece room (omega (arith, past, place, long))

-- What fits of the bytes, and the array after it.
pub written_parts : (bytes old : List ℕ) (n : ℕ) → n ≡ min (length bytes) (length old) → take n bytes ++ drop n old ≡ written bytes old
written_parts bytes old n is = go bytes old n (least n (length bytes) (length old) is (cases_lt (length bytes) (length old)))
  where
    least : (n a b : ℕ) → n ≡ min a b → (a < b) ⊎ (b ≤ a) → ((n ≡ a) × (n ≤ b)) ⊎ ((n ≡ b) × (n ≤ a))
    least n a b is (inl lt) = inl (omega (arith, is, lt), omega (arith, is, lt))
    least n a b is (inr le) = inr (omega (arith, is, le), omega (arith, is, le))

    go : (bytes old : List ℕ) (n : ℕ) → ((n ≡ length bytes) × (n ≤ length old)) ⊎ ((n ≡ length old) × (n ≤ length bytes)) → take n bytes ++ drop n old ≡ written bytes old
    go [] [] zero h = refl
    go [] (y ∷ ys) zero h = refl
    go (x ∷ xs) [] zero h = refl
    go (x ∷ xs) (y ∷ ys) zero (inl h) = absurd (omega (arith, h.0))
    go (x ∷ xs) (y ∷ ys) zero (inr h) = absurd (omega (arith, h.0))
    go [] old (suc n) (inl h) = absurd (omega (arith, h.0))
    go [] old (suc n) (inr h) = absurd (omega (arith, h.1))
    go (x ∷ xs) [] (suc n) (inl h) = absurd (omega (arith, h.1))
    go (x ∷ xs) [] (suc n) (inr h) = absurd (omega (arith, h.0))
    go (x ∷ xs) (y ∷ ys) (suc n) (inl h) = ap (λ list. x ∷ list) (go xs ys n (inl (omega (arith, h.0), omega (arith, h.1))))
    go (x ∷ xs) (y ∷ ys) (suc n) (inr h) = ap (λ list. x ∷ list) (go xs ys n (inr (omega (arith, h.0), omega (arith, h.1))))

-- Nothing is put.
pub puts_nothing : (at : ℕ) (old : List ℕ) → Puts [] at at old old
puts_nothing at old = (omega arith, λ before room place is. is ∙ ap (λ list. written list room) (sym (append-nil before)))

-- Two pieces, one after the other.
pub puts_both : (a b : List ℕ) (at middle end : ℕ) (old between new : List ℕ) → Puts a at middle old between → Puts b middle end between new → Puts (a ++ b) at end old new
puts_both a b at middle end old between new first second = (
  omega (arith, first.0, second.0, length-append a b),
  λ before room place is.
      let after : middle ≡ length (before ++ a) = omega (arith, first.0, place, length-append before a) in
      second.1 (before ++ a) room after (first.1 before room place is) ∙ ap (λ list. written list room) (append_assoc before a b),
)

-- A whole text.
pub puts_whole : (text : List ℕ) (end : ℕ) (old new : List ℕ) → Puts text 0 end old new → (end ≡ length text) × (new ≡ written text old)
puts_whole text end old new puts = (omega (arith, puts.0), puts.1 [] old refl (sym (written_none old)))
