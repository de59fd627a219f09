use Rattle.std.specs.Prelude.{◌≡◌, ◌⊎◌, ℕ, ◌+◌, ◌*◌, ◌≤◌, List, [], ◌∷◌, ◌++◌}
use Rattle.wasm_instr.specs.declared.operator.Operator.{Operator}
use Rattle.wasm_operators.specs.Expression.{Placed}

-- An item made of the operator was appended, with this offset.
abbrev pub CollectsOne : {T : Type 0} → (Operator → T → Type 0) → ℕ → List (T × ℕ) → Operator → List (T × ℕ) → Type 0
CollectsOne {T} holds offset old op new = (made : T) × holds op made × (new ≡ old ++ (made, offset) ∷ [])

-- The items are made of the operators, in order, with their offsets.
abbrev pub AreMade : {T : Type 0} → (Operator → T → Type 0) → Placed → List (T × ℕ) → Type 0
AreMade holds [] items = items ≡ []
AreMade {T} holds (p ∷ ps) items = (first : T) × (others : List (T × ℕ)) × (items ≡ (first, p.1) ∷ others) × holds p.0 first × AreMade holds ps others

-- Items made of these operators were appended.
abbrev pub Collects : {T : Type 0} → (Operator → T → Type 0) → List (T × ℕ) → List (T × ℕ) → Placed → Type 0
Collects {T} holds old new placed = (items : List (T × ℕ)) × AreMade holds placed items × (new ≡ old ++ items)

-- A list's capacity stays as it is; or the list fills it, and it at least doubles, to at most twice
-- the number of items, plus 4.
abbrev pub GrowsAsFilled : ℕ → ℕ → ℕ → Type 0
GrowsAsFilled before items now = (now ≡ before) ⊎ ((before ≤ items) × (2 * before ≤ now) × (now ≤ 2 * items + 4))
