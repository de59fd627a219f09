-- Blocks of bytes after their lengths, and parts in sequence.
-- Specification: Binary Format, Lists; Modules, Sections, Code Section.
use Rattle.std.specs.Prelude.{◌≡◌, ℕ, zero, suc, ◌≤◌, List, [], ◌++◌, length}
use Rattle.wasm_below.specs.Number.{EncodesUnsigned}

-- The bytes encode the value, and no encoding of it is shorter.
pub record IsShortest {X : Type 0} (Encodes : List ℕ → X → Type 0) (text : List ℕ) (x : X) : Type 0 where
  pub encodes : Encodes text x
  pub shortest : (other : List ℕ) → Encodes other x → length text ≤ length other

-- A length, and that many bytes.
abbrev pub EncodesBlock : List ℕ → List ℕ → Type 0
EncodesBlock text block = (size : List ℕ) × (text ≡ size ++ block) × EncodesUnsigned 32 size (length block)

-- The first list is `n` parts in sequence, and the second has another part in the place of each.
abbrev pub InSequence : (List ℕ → List ℕ → Type 0) → ℕ → List ℕ → List ℕ → Type 0
InSequence Becomes zero old new = (old ≡ []) × (new ≡ [])
InSequence Becomes (suc n) old new =
    (part more other others : List ℕ) × (old ≡ part ++ more) × (new ≡ other ++ others) × Becomes part other × InSequence Becomes n more others
