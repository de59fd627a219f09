-- Specification: Binary Format, Lists.
use Rattle.std.specs.Prelude.{◌≡◌, ℕ, List, [], ◌∷◌, length}
use Rattle.wasm_below.specs.Number.{EncodesUnsigned}
use Rattle.wasm_below.specs.Source.{Reader, HasRead}

-- Between the two readers, the bytes encode these items, in order.
abbrev pub ItemsOccur : {X : Type 0} → (List ℕ → X → Type 0) → Reader → List X → Reader → Type 0
ItemsOccur Encodes r [] end = end ≡ r
ItemsOccur Encodes r (x ∷ xs) end = (mid : Reader) × HasRead Encodes x r mid × ItemsOccur Encodes mid xs end

-- The contents of a section begin with the number of these items, and the items.
pub record IsList {X : Type 0} (Encodes : List ℕ → X → Type 0) (contents : Reader) (items : List X) : Type 0 where
  pub first : Reader
  pub count : HasRead (EncodesUnsigned 32) (length items) contents first
  pub end : Reader
  pub occur : ItemsOccur Encodes first items end
