-- Pieces of a text, one after another.
use Rattle.std.proofs.Common.{◌≡◌, ℕ, ◌≤◌, ◌<◌, List, [], ◌∷◌, ◌++◌, length, set, refl, ap, ◌∙◌, arith, append_assoc, length-append}
use Rattle.wasm_view.specs.Lists.{written}
use Rattle.wasm_c.specs.Texts.{PutsPiece}
use Rattle.wasm_c.proofs.Written.{written_none}

-- What the law `written_members` states of bytes.
abbrev pub OfLength : Type 0
OfLength = (members old : List ℕ) → length (written members old) ≡ length old

abbrev pub OfFitting : Type 0
OfFitting = (members old : List ℕ) (member : ℕ) → length members < length old →
    set (written members old) (length members) member ≡ written (members ++ member ∷ []) old

abbrev pub OfFull : Type 0
OfFull = (members old : List ℕ) (member : ℕ) → length old ≤ length members → written members old ≡ written (members ++ member ∷ []) old

-- A byte that is written because it fits.
pub byte_set : OfLength → OfFitting → (before room old new : List ℕ) (at byte : ℕ) → at ≡ length before → old ≡ written before room →
    at < length old → new ≡ set old at byte → new ≡ written (before ++ byte ∷ []) room
byte_set long fitting before room old new at byte place is within put =
    let fits : length before < length room = omega (arith, within, ap length is, long before room, place) in
    put ∙ ap (λ list. set list at byte) is ∙ ap (λ n. set (written before room) n byte) place ∙ fitting before room byte fits

-- A byte that does not fit.
pub byte_left : OfLength → OfFull → (before room old : List ℕ) (at byte : ℕ) → at ≡ length before → old ≡ written before room → length old ≤ at →
    old ≡ written (before ++ byte ∷ []) room
byte_left long past before room old at byte place is full =
    let there : length room ≤ length before = omega (arith, full, ap length is, long before room, place) in
    is ∙ past before room byte there

-- Two pieces, one after the other.
pub puts_both : (a b : List ℕ) (at middle end : ℕ) (old between new : List ℕ) → PutsPiece a at old middle between → PutsPiece b middle between end new →
    PutsPiece (a ++ b) at old end new
puts_both a b at middle end old between new first second = (
  omega (arith, first.0, second.0, length-append a b),
  λ before room place is.
      let after : middle ≡ length (before ++ a) = omega (arith, first.0, place, length-append before a) in
      second.1 (before ++ a) room after (first.1 before room place is) ∙ ap (λ list. written list room) (append_assoc before a b),
)

-- A whole text.
pub puts_text : (text : List ℕ) (end : ℕ) (old new : List ℕ) → PutsPiece text 0 old end new → (end ≡ length text) × (new ≡ written text old)
puts_text text end old new puts = (omega (arith, puts.0), puts.1 [] old refl (written_none old))
