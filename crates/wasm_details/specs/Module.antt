-- A module: the sections, which are shown one after another. Specification: Binary Format, Modules.
use Rattle.std.specs.Prelude.{◌≡◌, ◌⊎◌, ℕ, List, [], ◌∷◌, ◌++◌, Bool, true, false, Option, None, Result, Ok, Err, codes}
use Rattle.wasm_below.specs.declared.error.Error.{Error}
use Rattle.wasm_below.specs.declared.features.WasmFeatures.{WasmFeatures}
use Rattle.wasm_below.specs.Source.{Reader, rest, reader_of, HasRead}
use Rattle.wasm_module.specs.Module.{SectionParts, EncodesSection, SectionFault}
use Rattle.wasm_module.specs.Refusals.{IsRefusedAs}
use Rattle.wasm_module.specs.Sections.{BeginsModule, SectionsOccur}
use Rattle.wasm_rows.specs.declared.fault.Fault.{Fault}
use Rattle.wasm_rows.specs.declared.fault.Fault.TheVariants as fault
use Rattle.wasm_details.specs.declared.place.Imported.{Imported}
use Rattle.wasm_details.specs.declared.place.Place.{Place}
use Rattle.wasm_details.specs.Constants.{Constants}
use Rattle.wasm_index_names.specs.Known.{ModuleNames}
use Rattle.wasm_index_names.specs.Known.{AreNames}
use Rattle.wasm_rows.specs.Contents.{IsChosen, IsNameOf}
use Rattle.wasm_rows.specs.Titles.{title_of}
use Rattle.wasm_rows.specs.Writing.{WritesThen}
use Rattle.wasm_details.specs.Contents.{first_place, ListsContents}

-- What is appended for a section whose first item is at the place `first`, if it is shown. Otherwise
-- it is only read.
abbrev pub ListsIf : {X : Type 0} → Bool → Constants X → ModuleNames → SectionParts → Place → Result Place Fault → Option (List ℕ) → Option (List ℕ) → Type 0
ListsIf true k names s first result old new = ListsContents k names s.id s.contents first result old new
ListsIf false k names s first result old new = ListsContents k names s.id s.contents first result None None × (new ≡ old)

-- What is appended for a section, which is shown if it has the name `asked` or none is given.
abbrev pub ListsChosen : {X : Type 0} → Constants X → ModuleNames → Option (List ℕ) → SectionParts → Place → Result Place Fault → Option (List ℕ) →
    Option (List ℕ) → Type 0
ListsChosen k names asked s first result old new = (shown : Bool) × IsChosen asked s shown × ListsIf shown k names s first result old new

-- What is appended for sections, one after another.
abbrev pub AreListed : {X : Type 0} → Constants X → ModuleNames → Option (List ℕ) → Imported → List SectionParts → Imported → Option (List ℕ) →
    Option (List ℕ) → Type 0
AreListed k names asked i [] j old new = (j ≡ i) × (new ≡ old)
AreListed k names asked i (s ∷ ss) j old new =
    (p : Place) × (between : Option (List ℕ)) × ListsChosen k names asked s (first_place s.id i) (Ok p) old between × AreListed k names asked p.imported ss j between new

-- Nothing is imported.
abbrev pub none_imported : Imported
none_imported = record { functions = 0; tables = 0; memories = 0; globals = 0; tags = 0 }

-- Between the two readers are these sections, whose text is appended.
pub record ShowsDetails {X : Type 0} (k : Constants X) (names : ModuleNames) (asked : Option (List ℕ)) (first next : Reader) (j : Imported) (old new : Option (List ℕ)) : Type 0 where
  pub sections : List SectionParts
  pub occur : SectionsOccur first sections next
  pub listed : AreListed k names asked none_imported sections j old new

-- The next section is in error as a whole; or its contents are, or writing or allocation fails in
-- them.
abbrev pub StopsDetails : {X : Type 0} → Constants X → ModuleNames → Option (List ℕ) → Imported → Fault → Reader → Option (List ℕ) → Option (List ℕ) → Type 0
StopsDetails k names asked j f next old new =
    ((e : Error) × (f ≡ fault.Section e) × IsRefusedAs (EncodesSection next.features) SectionFault e next × (new ≡ old)) ⊎
    ((s : SectionParts) × (later : Reader) × HasRead (EncodesSection next.features) s next later × ListsChosen k names asked s (first_place s.id j) (Err f) old new)

-- All sections are written; or those before the first that is not written completely, and a part of
-- it.
abbrev pub ListsDetails : {X Y : Type 0} → Constants X → ModuleNames → Option (List ℕ) → Reader → Result Y Fault → Option (List ℕ) → Option (List ℕ) → Type 0
ListsDetails k names asked first (Ok x) old new = (next : Reader) × (j : Imported) × ShowsDetails k names asked first next j old new × (rest next ≡ [])
ListsDetails k names asked first (Err f) old new =
    (next : Reader) × (j : Imported) × (mid : Option (List ℕ)) × ShowsDetails k names asked first next j old mid × StopsDetails k names asked j f next mid new

-- The heading of the sections.
abbrev pub details_heading : List ℕ
details_heading = codes "\nSection Details:\n\n"

-- The lines with the names of the file and the module, unless there is no file name, and the heading.
abbrev pub heading_of : Option (List ℕ) → List ℕ → List ℕ
heading_of file name = title_of file name ++ details_heading

-- A heading is written, and the sections.
pub record WritesDetails {X Y : Type 0} (k : Constants X) (features : WasmFeatures) (file asked : Option (List ℕ)) (bytes : List ℕ) (result : Result Y Fault) (old new : Option (List ℕ)) : Type 0 where
  pub after : Reader
  pub begins : BeginsModule (reader_of features 0 bytes) after
  pub name : List ℕ
  pub is_name : IsNameOf (reader_of features 0 bytes) name
  pub names : ModuleNames
  pub are_names : AreNames features bytes names
  pub lists : WritesThen (heading_of file name) (ListsDetails k names asked after) result old new

-- The module is written, completely or up to an error. If allocation fails before the names are
-- known, nothing is written.
abbrev pub ListsModule : {X Y : Type 0} → Constants X → WasmFeatures → Option (List ℕ) → Option (List ℕ) → List ℕ → Result Y Fault → Option (List ℕ) → Option (List ℕ) → Type 0
ListsModule k features file asked bytes (Ok x) old new = WritesDetails k features file asked bytes (Ok x) old new
ListsModule {X} {Y} k features file asked bytes (Err f) old new =
    ((f ≡ fault.Memory) × (new ≡ old)) ⊎ WritesDetails {Y = Y} k features file asked bytes (Err f) old new
