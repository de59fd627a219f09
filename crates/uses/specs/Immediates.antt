-- Proposal shared-everything threads.
use Rattle.std.specs.Prelude.{◌≡◌, ℕ, List, [], ◌∷◌, map}
use Rattle.wasm_operators.specs.imm.declared.ordering.Ordering.{Ordering}
use Rattle.wasm_operators.specs.imm.Immediate.{Immediate, kind_of, order, unsigned_32, is_order, is_unsigned_32}

-- The immediates of `array.atomic.get`: an ordering, and the index of the array's type.
abbrev pub access : Ordering → ℕ → List Immediate
access o index = order o ∷ unsigned_32 index ∷ []

-- Immediates of these kinds.
abbrev pub AreAccess : List Immediate → Type 0
AreAccess is = map kind_of is ≡ is_order ∷ is_unsigned_32 ∷ []
