-- The lines of an item, which are written completely or in part.
use Rattle.std.specs.Prelude.{◌≡◌, ℕ, List, Option, Result, Ok, Err}
use Rattle.std.specs.Io.KnownBytes.{Appends}
use Rattle.wasm_rows.specs.declared.fault.Fault.{Fault}
use Rattle.wasm_rows.specs.Rows.{rows_text}
use Rattle.wasm_rows.specs.Writing.{HaltsIn, WritesPieces}
use Rattle.wasm_details.specs.declared.place.Place.{Place}

-- The text of an item is appended. The place after the item is `next`.
abbrev pub WritesLine : List ℕ → Place → Result Place Fault → Option (List ℕ) → Option (List ℕ) → Type 0
WritesLine text next (Ok p) old new = (p ≡ next) × Appends old new text
WritesLine text next (Err f) old new = HaltsIn text f old new

-- The rows of bytes are appended, or a part of them. The place after the item is `next`.
abbrev pub ListsRows : List ℕ → ℕ → List ℕ → Place → Result Place Fault → Option (List ℕ) → Option (List ℕ) → Type 0
ListsRows before address bytes next (Ok p) old new = (p ≡ next) × Appends old new (rows_text before address bytes)
ListsRows before address bytes next (Err f) old new = WritesPieces {X = Place} (rows_text before address bytes) (Err f) old new
