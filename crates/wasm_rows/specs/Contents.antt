-- Sections as rows of bytes, in the form of wabt's `wasm-objdump -s`. Specification: Binary Format,
-- Modules, Sections.
use Rattle.std.specs.Prelude.{◌≡◌, ◌≢◌, ◌==◌, ◌⊎◌, ◌↔◌, ℕ, List, [], ◌∷◌, ◌++◌, Bool, true, false, IsTrue, map, Option, Some, None, Result, Ok, Err, codes, if◌then◌else◌}
use Rattle.std.specs.Char.{to_ascii_lowercase}
use Rattle.std.specs.Io.KnownBytes.{Appends}
use Rattle.wasm_below.specs.declared.error.Error.{Error}
use Rattle.wasm_below.specs.declared.features.WasmFeatures.{WasmFeatures}
use Rattle.wasm_below.specs.Source.{Reader, rest, offset_of, reader_of, HasRead, IsRefusal}
use Rattle.wasm_module.specs.Module.{SectionParts, EncodesSection, SectionFault}
use Rattle.wasm_module.specs.ModuleFunctions.{NamesModule}
use Rattle.wasm_module.specs.Names.{EncodesName}
use Rattle.wasm_module.specs.Refusals.{IsRefusedAs}
use Rattle.wasm_module.specs.Sections.{BeginsModule, SectionsOccur, IsModule}
use Rattle.wasm_rows.specs.declared.fault.Fault.{Fault}
use Rattle.wasm_rows.specs.declared.fault.Fault.TheVariants as fault
use Rattle.wasm_rows.specs.Rows.{rows_text}
use Rattle.wasm_rows.specs.Titles.{title_of}
use Rattle.wasm_rows.specs.Writing.{IsHalt, AppendsPart, WritesThen}

-- The word for a section number.
abbrev pub section_word : ℕ → List ℕ
section_word id =
    if id == 0 then codes "Custom" else (if id == 1 then codes "Type" else (if id == 2 then codes "Import" else
    (if id == 3 then codes "Function" else (if id == 4 then codes "Table" else (if id == 5 then codes "Memory" else
    (if id == 6 then codes "Global" else (if id == 7 then codes "Export" else (if id == 8 then codes "Start" else
    (if id == 9 then codes "Elem" else (if id == 10 then codes "Code" else (if id == 11 then codes "Data" else
    (if id == 12 then codes "DataCount" else (if id == 13 then codes "Tag" else codes "Unknown")))))))))))))

-- What a section is called: a custom section by its name, another by the word for its number.
abbrev pub IsCalled : SectionParts → List ℕ → Type 0
IsCalled s own = ((s.id ≡ 0) × (after : Reader) × HasRead EncodesName own s.contents after) ⊎ ((s.id ≢ 0) × (own ≡ section_word s.id))

-- The names are the same, if upper and lower case of ASCII letters is.
abbrev pub AreSame : List ℕ → List ℕ → Type 0
AreSame a b = map to_ascii_lowercase a ≡ map to_ascii_lowercase b

-- Whether a section is shown: each if no name is given, otherwise those that are called so. A custom
-- section whose name is in error is called nothing.
abbrev pub IsChosen : Option (List ℕ) → SectionParts → Bool → Type 0
IsChosen None s shown = shown ≡ true
IsChosen (Some name) s shown =
    ((own : List ℕ) × IsCalled s own × (IsTrue shown ↔ AreSame own name)) ⊎
    ((s.id ≡ 0) × ((e : Error) × IsRefusal EncodesName e s.contents) × (shown ≡ false))

-- The heading of a section.
abbrev pub section_heading : ℕ → List ℕ
section_heading id = codes "\nContents of section " ++ (section_word id ++ codes ":\n")

-- The heading and the rows of a section, with the offsets of the module.
abbrev pub section_text : SectionParts → List ℕ
section_text s = section_heading s.id ++ rows_text [] (offset_of s.contents) (rest s.contents)

-- The text of a section, or none if it is not shown.
abbrev pub text_if : Bool → SectionParts → List ℕ
text_if true s = section_text s
text_if false s = []

-- The text of sections, one after another.
abbrev pub AreShown : Option (List ℕ) → List SectionParts → List ℕ → Type 0
AreShown asked [] text = text ≡ []
AreShown asked (s ∷ ss) text = (shown : Bool) × IsChosen asked s shown × (more : List ℕ) × (text ≡ text_if shown s ++ more) × AreShown asked ss more

-- Between the two readers are these sections, whose text is appended.
pub record ShowsSections (asked : Option (List ℕ)) (first next : Reader) (old new : Option (List ℕ)) : Type 0 where
  pub sections : List SectionParts
  pub occur : SectionsOccur first sections next
  pub text : List ℕ
  pub shown : AreShown asked sections text
  pub appends : Appends old new text

-- The next section is in error; or writing or allocation fails in its text.
abbrev pub StopsSections : Option (List ℕ) → Fault → Reader → Option (List ℕ) → Option (List ℕ) → Type 0
StopsSections asked f next old new =
    ((e : Error) × (f ≡ fault.Section e) × IsRefusedAs (EncodesSection next.features) SectionFault e next × (new ≡ old)) ⊎
    ((s : SectionParts) × (later : Reader) × HasRead (EncodesSection next.features) s next later × IsChosen asked s true × IsHalt f × AppendsPart old new (section_text s))

-- The text of all sections is appended; or of those before the first that is not written completely,
-- and a part of it.
abbrev pub ListsSections : {X : Type 0} → Option (List ℕ) → Reader → Result X Fault → Option (List ℕ) → Option (List ℕ) → Type 0
ListsSections asked first (Ok x) old new = (next : Reader) × ShowsSections asked first next old new × (rest next ≡ [])
ListsSections asked first (Err f) old new =
    (next : Reader) × (mid : Option (List ℕ)) × ShowsSections asked first next old mid × StopsSections asked f next mid new

-- A module's name; empty if it has none or is no module.
abbrev pub IsNameOf : Reader → List ℕ → Type 0
IsNameOf whole name =
    ((sections : List SectionParts) → IsModule whole sections → NamesModule whole name) ×
    (((sections : List SectionParts) → IsModule whole sections → ⊥) → name ≡ [])

-- The title of a module and the text of its sections are written.
pub record ListsContents {X : Type 0} (asked : Option (List ℕ)) (features : WasmFeatures) (file : Option (List ℕ)) (bytes : List ℕ) (result : Result X Fault)
    (old new : Option (List ℕ)) : Type 0 where
  pub after : Reader
  pub begins : BeginsModule (reader_of features 0 bytes) after
  pub name : List ℕ
  pub is_name : IsNameOf (reader_of features 0 bytes) name
  pub lists : WritesThen (title_of file name) (ListsSections asked after) result old new

-- None of these sections is called so.
abbrev pub NoneChosen : List ℕ → List SectionParts → Type 0
NoneChosen name [] = Unit {0}
NoneChosen name (s ∷ ss) = IsChosen (Some name) s false × NoneChosen name ss

-- Whether a section is called so, of those before the first that is in error.
abbrev pub HasSection : List ℕ → Reader → Bool → Type 0
HasSection name first true =
    (before : List SectionParts) × (mid later : Reader) × SectionsOccur first before mid × (s : SectionParts) × HasRead (EncodesSection mid.features) s mid later ×
    IsChosen (Some name) s true
HasSection name first false =
    (before : List SectionParts) × (end : Reader) × SectionsOccur first before end × NoneChosen name before ×
    ((rest end ≡ []) ⊎ ((e : Error) × IsRefusedAs (EncodesSection end.features) SectionFault e end))
