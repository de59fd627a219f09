-- The operand stack in segments, one for each control frame, the innermost first. A segment has the
-- top first.
use Rattle.std.specs.Prelude.{◌≡◌, Bool, true, false, ℕ, ◌-◌, ◌≤◌, List, [], ◌∷◌, length, take, drop, Option, Some, None, reverse}
use Rattle.wasm_typing.specs.declared.value_type.ValueType.{ValueType}
use Rattle.wasm_typing.specs.Types.{Stack}
use Rattle.wasm_check_control.specs.Selects.{same_number}

-- The segments of operands above these heights, the highest first.
abbrev pub segments : List ℕ → Stack → List Stack
segments [] operands = []
segments (floor ∷ floors) operands =
    take (length operands - floor) operands ∷ segments floors (drop (length operands - floor) operands)

-- Each height is at most the one above it.
abbrev pub AreFloors : List ℕ → ℕ → Type 0
AreFloors [] height = Unit {0}
AreFloors (floor ∷ floors) height = (floor ≤ height) × AreFloors floors floor

-- The heights, the highest first, if the highest is kept apart from those below it.
abbrev pub floors_of : Option ℕ → List ℕ → List ℕ
floors_of None below = []
floors_of (Some floor) below = floor ∷ reverse below

abbrev pub IsAlone : Option ℕ → List ℕ → Type 0
IsAlone None below = below ≡ []
IsAlone (Some floor) below = Unit {0}

-- The innermost segment.
abbrev pub innermost : List Stack → Stack
innermost [] = []
innermost (first ∷ others) = first

-- The segments around the innermost.
abbrev pub outer : List Stack → List Stack
outer [] = []
outer (first ∷ others) = others

-- The segments with another innermost one.
abbrev pub with_innermost : Stack → List Stack → List Stack
with_innermost s [] = []
with_innermost s (first ∷ others) = s ∷ others

-- An operand was taken from the innermost segment, or this segment is empty.
abbrev pub Popped : Option ValueType → List Stack → List Stack → Type 0
Popped None old new = (innermost old ≡ []) × (new ≡ old)
Popped (Some v) old new = (rest : Stack) × (innermost old ≡ v ∷ rest) × (new ≡ with_innermost rest old)

-- As `Popped`, if the operand on top has this type, which is a number type or v128. Otherwise nothing changes.
abbrev pub PoppedSame : Bool → ValueType → List Stack → List Stack → Type 0
PoppedSame true ty old new = (same_number ty ty ≡ true) × Popped (Some ty) old new
PoppedSame false ty old new = new ≡ old
