-- Lists among the immediates.
use Rattle.std.specs.Prelude.{◌≡◌, ℕ, List, ◌∷◌, length}
use Rattle.wasm_encode_immediates.specs.declared.unwritable.Unwritable.{Unwritable}
use Rattle.wasm_encode_immediates.specs.Reasons.{HasCountReason, OrOutOfMemory}

-- An encoding after this byte.
abbrev pub After : {X : Type 0} → ℕ → (List ℕ → X → Type 0) → List ℕ → X → Type 0
After byte Encodes text x = (after : List ℕ) × (text ≡ byte ∷ after) × Encodes after x

-- Why a list was not written.
abbrev pub HasListReason : {X : Type 0} → ℕ → List X → Unwritable → Type 0
HasListReason limit xs e = OrOutOfMemory (HasCountReason limit (length xs)) e
