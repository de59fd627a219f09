-- The items of a section, written one after another. Specification: Binary Format, Modules,
-- Sections.
use Rattle.std.specs.Prelude.{◌≡◌, ◌⊎◌, ℕ, ◌+◌, false, List, [], ◌∷◌, ◌++◌, length, Option, Result, Ok, Err, decimal, codes}
use Rattle.wasm_below.specs.declared.error.Error.{Error}
use Rattle.wasm_below.specs.declared.features.WasmFeatures.{WasmFeatures}
use Rattle.wasm_below.specs.Source.{Reader, offset_of}
use Rattle.wasm_grammars.specs.Grammar.{Grammar, HasReadBy}
use Rattle.wasm_grammars.specs.Parts.{u32}
use Rattle.wasm_grammars.specs.Reading.{Fails}
use Rattle.wasm_sections.specs.Items.{Counted, ItemsLeft, IsDone, StopsItems}
use Rattle.wasm_rows.specs.declared.fault.Fault.{Fault}
use Rattle.wasm_rows.specs.declared.fault.Fault.TheVariants as fault
use Rattle.wasm_details.specs.declared.place.Place.{Place}
use Rattle.wasm_rows.specs.Writing.{WritesThen}

-- What is written for an item at a place, with the place after it.
abbrev pub Listing : Type 0 → Type 1
Listing X = Place → X → Result Place Fault → Option (List ℕ) → Option (List ℕ) → Type 0

-- Between two readers, the bytes are these items.
abbrev pub ItemsOccur : {X : Type 0} → (WasmFeatures → Grammar X) → Reader → List X → Reader → Type 0
ItemsOccur g r [] end = end ≡ r
ItemsOccur g r (x ∷ xs) end = (mid : Reader) × HasReadBy (g r.features) x r mid × ItemsOccur g mid xs end

-- Items are written one after another. The first is at the place `first`, and `next` is the place
-- after them.
abbrev pub AreWritten : {X : Type 0} → Listing X → Place → List X → Place → Option (List ℕ) → Option (List ℕ) → Type 0
AreWritten lists first [] next old new = (next ≡ first) × (new ≡ old)
AreWritten lists first (x ∷ xs) next old new = (p : Place) × (mid : Option (List ℕ)) × lists first x (Ok p) old mid × AreWritten lists p xs next mid new

-- The first items are read and written. These are left.
pub record WritesItems {X : Type 0} (g : WasmFeatures → Grammar X) (lists : Listing X) (s : Counted) (first next : Place) (left : ItemsLeft)
    (old new : Option (List ℕ)) : Type 0 where
  pub items : List X
  pub occur : ItemsOccur g s.reader items left.reader
  pub number : s.count ≡ length items + left.remaining
  pub written : AreWritten lists first items next old new

-- The next item is in error, or writing or allocation fails at it.
abbrev pub StopsAt : {X : Type 0} → (WasmFeatures → Grammar X) → Listing X → Fault → Place → ItemsLeft → Option (List ℕ) → Option (List ℕ) → Type 0
StopsAt {X} g lists f place left old new =
    ((e : Error) × (f ≡ fault.Section e) × StopsItems (g left.reader.features) e left × (new ≡ old)) ⊎
    ((x : X) × (later : Reader) × HasReadBy (g left.reader.features) x left.reader later × lists place x (Err f) old new)

-- All items are written; or those before the first that is not written completely, and a part of
-- it. The first item is at the place `first`.
abbrev pub ListsItems : {X : Type 0} → (WasmFeatures → Grammar X) → Listing X → Counted → Place → Result Place Fault → Option (List ℕ) → Option (List ℕ) → Type 0
ListsItems g lists s first (Ok next) old new = (left : ItemsLeft) × WritesItems g lists s first next left old new × (left.refused ≡ false) × IsDone left
ListsItems g lists s first (Err f) old new =
    (left : ItemsLeft) × (next : Place) × (mid : Option (List ℕ)) × WritesItems g lists s first next left old mid × StopsAt g lists f next left mid new

-- The title of a section with this number of items.
abbrev pub title_text : List ℕ → ℕ → List ℕ
title_text title count = title ++ (codes "[" ++ (decimal count ++ codes "]:\n"))

-- The title and the items of a section.
abbrev pub ListsCounted : {X : Type 0} → (WasmFeatures → Grammar X) → Listing X → List ℕ → Counted → Place → Result Place Fault → Option (List ℕ) →
    Option (List ℕ) → Type 0
ListsCounted g lists title s first result old new = WritesThen (title_text title s.count) (ListsItems g lists s first) result old new

-- A section, whose number of items may be in error.
abbrev pub ListsSection : {X : Type 0} → (WasmFeatures → Grammar X) → Listing X → List ℕ → Reader → Place → Result Place Fault → Option (List ℕ) →
    Option (List ℕ) → Type 0
ListsSection g lists title contents first (Ok next) old new =
    (s : Counted) × HasReadBy u32 s.count contents s.reader × ListsCounted g lists title s first (Ok next) old new
ListsSection g lists title contents first (Err f) old new =
    ((e : Error) × (f ≡ fault.Section e) × Fails u32 (offset_of contents) e contents × (new ≡ old)) ⊎
    ((s : Counted) × HasReadBy u32 s.count contents s.reader × ListsCounted g lists title s first (Err f) old new)
