-- Specification: Binary Format, Lists.
use Rattle.std.specs.Prelude.{◌≡◌, ℕ, List, [], ◌∷◌, ◌++◌, length, Vec, Result, Ok, Err}
use Rattle.wasm_below.specs.declared.error.Error.{Error}
use Rattle.wasm_below.specs.Number.{EncodesSize}
use Rattle.wasm_below.specs.Sequence.{Then}
use Rattle.wasm_below.specs.Source.{Reader, rest, SomePrefix}

abbrev pub EncodesEach : {X : Type 0} → (List ℕ → X → Type 0) → List ℕ → List X → Type 0
EncodesEach Encodes text [] = text ≡ []
EncodesEach Encodes text (x ∷ xs) = (first rest : List ℕ) × (text ≡ first ++ rest) × Encodes first x × EncodesEach Encodes rest xs

-- The encodings of `count` members, in sequence.
abbrev pub EncodesMany : {X : Type 0} → (List ℕ → X → Type 0) → ℕ → List ℕ → List X → Type 0
EncodesMany Encodes count text xs = (length xs ≡ count) × EncodesEach Encodes text xs

-- A prefix of the rest encodes a count of at most `limit`.
abbrev pub HasCount : ℕ → Reader → Type 0
HasCount limit r = SomePrefix (EncodesSize limit) (rest r)

-- The count, which is at most `limit`, and the members.
--   list(X) ::= n:u32 (el:X)^n ⇒ el^n
abbrev pub EncodesList : {X : Type 0} → ℕ → (List ℕ → X → Type 0) → List ℕ → List X → Type 0
EncodesList limit Encodes = Then (EncodesSize limit) (EncodesMany Encodes)

-- The items of a vector that a call returned.
abbrev pub items_of : {X Z : Type 0} → Result (Vec X Z) Error → Result (List X) Error
items_of (Ok v) = Ok v.items
items_of (Err e) = Err e
