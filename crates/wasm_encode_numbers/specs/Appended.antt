-- What a writer appends to a vector.
use Rattle.std.specs.Prelude.{◌≡◌, ℕ, ◌≤◌, List, ◌++◌, length}

-- An encoding of the value was appended, and no encoding is shorter.
pub record Appends {X : Type 0} (Encodes : List ℕ → X → Type 0) (x : X) (old new : List ℕ) : Type 0 where
  pub text : List ℕ
  pub appended : new ≡ old ++ text
  pub encodes : Encodes text x
  pub shortest : (other : List ℕ) → Encodes other x → length text ≤ length other

-- No bytes encode the value.
abbrev pub HasNone : {X : Type 0} → (List ℕ → X → Type 0) → X → Type 0
HasNone Encodes x = (text : List ℕ) → ¬ Encodes text x
