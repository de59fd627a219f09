-- In the form of wabt's `wasm-objdump -h`. Specification: Binary Format, Modules: Sections.
use Rattle.std.specs.Prelude.{◌≡◌, ◌==◌, ◌⊎◌, ℕ, ◌/◌, ◌%◌, ◌^◌, ltb, nat_lt, false, List, [], ◌∷◌, ◌++◌, length, Option, Result, Ok, Err, codes, decimal, if◌then◌else◌}
use Rattle.std.specs.Fmt.{radix_digits}
use Rattle.std.specs.Io.KnownBytes.{Appends}
use Rattle.wasm_operators.specs.below.declared.error.Error.{Error}
use Rattle.wasm_operators.specs.below.declared.features.WasmFeatures.{WasmFeatures}
use Rattle.wasm_operators.specs.below.Number.{EncodesUnsigned}
use Rattle.wasm_operators.specs.below.Source.{Reader, rest, offset_of, end_of, reader_of, HasRead, U32Fault}
use Rattle.wasm_text.specs.Values.{byte_text}
use Rattle.wasm_module.specs.Module.{SectionParts, EncodesSection, SectionFault}
use Rattle.wasm_module.specs.Names.{EncodesName, NameFault}
use Rattle.wasm_module.specs.Refusals.{SectionsFault, IsRefusedAs}
use Rattle.wasm_module.specs.Sections.{BeginsModule, SectionsOccur, IsModule}
use Rattle.wasm_module.specs.ModuleFunctions.{NamesModule}
use Rattle.wasm_disassembly.specs.declared.listing_fault.Fault.{Fault}
use Rattle.wasm_disassembly.specs.declared.listing_fault.Fault.TheVariants as fault
use Rattle.wasm_disassembly.specs.declared.headers.Detail.{Detail}
use Rattle.wasm_disassembly.specs.declared.headers.Detail.TheVariants as detail
use Rattle.wasm_escapes.specs.Escapes.{escaped}
use Rattle.wasm_disassembly.specs.Listing.{heading_of, IsHalt}

-- The name of a section number, aligned right in nine columns.
abbrev pub section_name : ℕ → List ℕ
section_name id =
    if id == 0 then codes "   Custom" else (if id == 1 then codes "     Type" else (if id == 2 then codes "   Import" else
    (if id == 3 then codes " Function" else (if id == 4 then codes "    Table" else (if id == 5 then codes "   Memory" else
    (if id == 6 then codes "   Global" else (if id == 7 then codes "   Export" else (if id == 8 then codes "    Start" else
    (if id == 9 then codes "     Elem" else (if id == 10 then codes "     Code" else (if id == 11 then codes "     Data" else
    (if id == 12 then codes "DataCount" else (if id == 13 then codes "      Tag" else codes "  Unknown")))))))))))))

-- A number in hexadecimal, of at least eight digits.
abbrev pub hex_text : ℕ → List ℕ
hex_text n =
    if ltb n (2 ^ 32)
    then byte_text (n / 2 ^ 24) ++ (byte_text (n / 2 ^ 16 % 2 ^ 8) ++ (byte_text (n / 2 ^ 8 % 2 ^ 8) ++ byte_text (n % 2 ^ 8)))
    else radix_digits 16 false n

-- Where the contents start and end, and their size.
abbrev pub range_text : Reader → List ℕ
range_text contents =
    codes " start=0x" ++ (hex_text (offset_of contents) ++ (codes " end=0x" ++ (hex_text (end_of contents) ++
    (codes " (size=0x" ++ (hex_text (length (rest contents)) ++ codes ") ")))))

-- A custom section's name, the start function, number of items, or unknown section's number.
abbrev pub detail_text : Detail → List ℕ
detail_text (detail.Custom name) = codes "\"" ++ (escaped name.now ++ codes "\"")
detail_text (detail.Start index) = codes "start: " ++ decimal index
detail_text (detail.Count number) = codes "count: " ++ decimal number
detail_text (detail.Unknown id) = codes "id: " ++ decimal id

-- 1 for a section whose contents begin with a number, 0 for a custom section, 2 for an unknown one.
abbrev pub is_numbered : ℕ → ℕ
is_numbered id = if id == 0 then 0 else (if nat_lt id 14 then 1 else 2)

-- The section's `Detail`, or the error of reading a name or number.
abbrev pub HasDetail : SectionParts → Result Detail Error → Type 0
HasDetail s (Ok (detail.Custom name)) = (s.id ≡ 0) × (after : Reader) × HasRead EncodesName name.now s.contents after
HasDetail s (Ok (detail.Start index)) = (s.id ≡ 8) × (after : Reader) × HasRead (EncodesUnsigned 32) index s.contents after
HasDetail s (Ok (detail.Count number)) = (s.id ≡ 8 → ⊥) × (is_numbered s.id ≡ 1) × (after : Reader) × HasRead (EncodesUnsigned 32) number s.contents after
HasDetail s (Ok (detail.Unknown id)) = (s.id ≡ id) × (is_numbered id ≡ 2)
HasDetail s (Err e) =
    ((s.id ≡ 0) × IsRefusedAs EncodesName NameFault e s.contents) ⊎
    ((is_numbered s.id ≡ 1) × IsRefusedAs (EncodesUnsigned 32) U32Fault e s.contents)

-- The line of a section.
abbrev pub section_line : SectionParts → Detail → List ℕ
section_line s d = section_name s.id ++ (range_text s.contents ++ (detail_text d ++ codes "\n"))

-- The lines of sections, one after another.
abbrev pub AreShown : List SectionParts → List ℕ → Type 0
AreShown [] text = text ≡ []
AreShown (s ∷ ss) text = (d : Detail) × HasDetail s (Ok d) × (more : List ℕ) × (text ≡ section_line s d ++ more) × AreShown ss more

-- Between the two readers are these sections, whose lines are appended.
pub record ShowsSections (first next : Reader) (old new : Option (List ℕ)) : Type 0 where
  pub sections : List SectionParts
  pub occur : SectionsOccur first sections next
  pub text : List ℕ
  pub shown : AreShown sections text
  pub appends : Appends old new text

-- The next section, its name or first number is in error.
abbrev pub StopsSections : Error → Reader → Type 0
StopsSections e next =
    IsRefusedAs (EncodesSection next.features) SectionFault e next ⊎
    ((s : SectionParts) × (later : Reader) × HasRead (EncodesSection next.features) s next later × HasDetail s (Err e))

-- The lines of all sections are appended, or of those before an error, unless writing or allocation
-- failed.
abbrev pub ListsSections : {X : Type 0} → Reader → Result X Fault → Option (List ℕ) → Option (List ℕ) → Type 0
ListsSections first (Ok x) old new = (next : Reader) × ShowsSections first next old new × (rest next ≡ [])
ListsSections first (Err (fault.Section e)) old new = (next : Reader) × ShowsSections first next old new × StopsSections e next
ListsSections first (Err _) old new = Unit {0}

-- A section in error, or a failure of writing or allocation.
abbrev pub IsSectionFault : Fault → Type 0
IsSectionFault (fault.Section e) = Unit {0}
IsSectionFault f = IsHalt f

-- A module's name; empty if it has none or is no module.
abbrev pub IsNameOf : Reader → List ℕ → Type 0
IsNameOf whole name =
    ((sections : List SectionParts) → IsModule whole sections → NamesModule whole name) ×
    (((sections : List SectionParts) → IsModule whole sections → ⊥) → name ≡ [])

abbrev pub sections_heading : List ℕ
sections_heading = codes "\nSections:\n\n"

-- A heading and the lines of the sections are appended.
pub record WritesSections {X : Type 0} (whole : Reader) (file : Option (List ℕ)) (result : Result X Fault) (old new : Option (List ℕ)) : Type 0 where
  pub after : Reader
  pub begins : BeginsModule whole after
  pub name : List ℕ
  pub is_name : IsNameOf whole name
  pub titled : Option (List ℕ)
  pub title : Appends old titled (heading_of file name sections_heading)
  pub lists : ListsSections after result titled new

-- The sections are listed up to an error; or no module's preamble comes first, and nothing is
-- written.
abbrev pub ListsHeaders : {X : Type 0} → WasmFeatures → Option (List ℕ) → List ℕ → Result X Fault → Option (List ℕ) → Option (List ℕ) → Type 0
ListsHeaders features file bytes (Ok x) old new = WritesSections (reader_of features 0 bytes) file (Ok x) old new
ListsHeaders {X} features file bytes (Err (fault.Section e)) old new = WritesSections {X = X} (reader_of features 0 bytes) file (Err (fault.Section e)) old new
ListsHeaders features file bytes (Err (fault.Module f)) old new = SectionsFault f (reader_of features 0 bytes) × (new ≡ old)
ListsHeaders features file bytes (Err _) old new = Unit {0}
