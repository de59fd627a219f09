use Rattle.std.specs.Prelude.{◌≡◌, ℕ, if◌then◌else◌, Bool, true, false, [], length, Option, None, Some, Result, Ok, Err, is_err, ◌⊎◌}
use Rattle.std.specs.Iterator.{Count, at_most}
use Rattle.wasm_below.specs.declared.error.Error.{Error}
use Rattle.wasm_below.specs.Source.{rest, offset_of}
use Rattle.wasm_instr.specs.declared.operator.Operator.{Operator}
use Rattle.wasm_operators.specs.Reading.{State}
use Rattle.wasm_operators.specs.Next.{ReadsNext}

-- One read, with the operator's offset.
abbrev pub ReadsNextPlaced : Result (Operator × ℕ) Error → State → State → Type 0
ReadsNextPlaced (Ok placed) old new = ReadsNext (Ok placed.0) old new × (placed.1 ≡ offset_of old.reader)
ReadsNextPlaced (Err e) old new = ReadsNext (Err e) old new

pub record Iterating : Type 0 where
  pub reader : State
  pub refused : Bool

-- An iterator before its first item.
abbrev pub iterating_over : State → Iterating
iterating_over s = record { reader = s; refused = false }

abbrev pub HasEnded : Iterating → Type 0
HasEnded i = (i.refused ≡ true) ⊎ (rest i.reader.reader ≡ [])

-- A step of an iterator whose items are results of `Reads`: one read, unless it has ended.
abbrev pub StepsBy : {X : Type 0} → (Result X Error → State → State → Type 0) → Iterating → Option (Result X Error) → Iterating → Type 0
StepsBy Reads old None new = HasEnded old × (new ≡ old)
StepsBy Reads old (Some item) new = (HasEnded old → ⊥) × Reads item old.reader new.reader × (new.refused ≡ is_err item)

-- At most as many items as bytes are left, and none after an error.
abbrev pub items_to_come : Iterating → Count
items_to_come i = at_most (if i.refused then 0 else length (rest i.reader.reader))
