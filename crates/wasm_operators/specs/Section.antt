-- Specification: Binary Format, Lists; Modules, Sections.
use Rattle.std.specs.Prelude.{◌≡◌, ℕ, ◌+◌, ◌<◌, ◌⊎◌, Bool, true, false, List, [], Option, Some, None, Result, Ok, Err}
use Rattle.wasm_below.specs.declared.error.Error.{Error}
use Rattle.wasm_below.specs.declared.message.Message.{Message}
use Rattle.wasm_below.specs.declared.message.Message.TheVariants as message
use Rattle.wasm_below.specs.FromReader.{IsRefused}
use Rattle.wasm_below.specs.Source.{Reader, rest, offset_of, HasRead}

pub record Section : Type 0 where
  pub count : ℕ
  pub reader : Reader

-- How many items are left, the reader before the next, and whether an error was returned.
pub record SectionItems : Type 0 where
  pub remaining : ℕ
  pub reader : Reader
  pub refused : Bool

abbrev pub items_of : Section → SectionItems
items_of s = record { remaining = s.count; reader = s.reader; refused = false }

abbrev pub after_error : SectionItems → SectionItems
after_error s = record { remaining = s.remaining; reader = s.reader; refused = true }

-- An error was returned, or no item and no data is left.
abbrev pub IsDone : SectionItems → Type 0
IsDone s = (s.refused ≡ true) ⊎ ((s.remaining ≡ 0) × (rest s.reader ≡ []))

-- Data is left, and the error is at its start.
abbrev pub IsDataLeft : Error → Reader → Type 0
IsDataLeft e r = (rest r ≡ [] → ⊥) × (e.message ≡ message.DataAfterSection) × (e.offset ≡ offset_of r)

-- Reading the next item fails; or no item is left, but data is.
abbrev pub StopsSection : {X : Type 0} → (List ℕ → X → Type 0) → (Message → Reader → ℕ → Type 0) → (Reader → Type 0) → Error → SectionItems → Type 0
StopsSection Encodes Fault Memory e s =
    ((0 < s.remaining) × IsRefused Encodes Fault Memory e s.reader) ⊎
    ((s.remaining ≡ 0) × IsDataLeft e s.reader)

-- A step: an item was read; or an error was returned, once, and nothing consumed; or none follows.
abbrev pub StepsSection : {X : Type 0} → (List ℕ → X → Type 0) → (Message → Reader → ℕ → Type 0) → (Reader → Type 0) → (Reader → X → Reader → Type 0) →
    Option (Result X Error) → SectionItems → SectionItems → Type 0
StepsSection Encodes Fault Memory Placed None old new = (new ≡ old) × IsDone old
StepsSection Encodes Fault Memory Placed (Some (Ok x)) old new =
    (old.refused ≡ false) × (new.refused ≡ false) × (old.remaining ≡ new.remaining + 1) ×
    HasRead Encodes x old.reader new.reader × Placed old.reader x new.reader
StepsSection Encodes Fault Memory Placed (Some (Err e)) old new =
    (old.refused ≡ false) × (new ≡ after_error old) × StopsSection Encodes Fault Memory e old
