-- Specification: Binary Format, Modules, Export Section and Custom Section; Appendix, Custom
-- Sections, Name Section.
use Rattle.std.specs.Prelude.{◌≡◌, ◌==◌, ◌≢◌, ◌⊎◌, ◌<◌, ℕ, List, [], ◌∷◌, ◌++◌, length, map, flat_map, set, Option, Some, None, codes, if◌then◌else◌}
use Rattle.wasm_below.specs.declared.error.Error.{Error}
use Rattle.wasm_below.specs.Number.{EncodesUnsigned}
use Rattle.wasm_below.specs.Source.{Reader, rest, IsRefusal, HasRead}
use Rattle.wasm_module.specs.Exports.{ExportParts, EncodesExport}
use Rattle.wasm_module.specs.Imports.{ImportParts, EncodesImport}
use Rattle.wasm_module.specs.Module.{SectionParts, EncodesSection}
use Rattle.wasm_module.specs.Names.{NameParts, EncodesName, EncodesNameAssociation}
use Rattle.wasm_module.specs.Items.{ItemsOccur, IsList}
use Rattle.wasm_module.specs.Sections.{SectionsOccur, IsModule, first_with}
use Rattle.wasm_module.specs.declared.function_names.FunctionName.{FunctionName}
use Rattle.wasm_module.specs.declared.function_names.FunctionName.TheVariants as name

-- The bytes of a name. An import is named by its module, a dot and its name.
abbrev pub name_bytes : FunctionName → List ℕ
name_bytes (name.Given given) = given.now
name_bytes (name.Imported from item) = from.now ++ (codes "." ++ item.now)

-- The bytes of each name.
abbrev pub bytes_of : List FunctionName → List (List ℕ)
bytes_of names = map name_bytes names

-- The names after these exports, by index. The last export of a function names it.
abbrev pub with_exports : List (List ℕ) → List ExportParts → List (List ℕ)
with_exports names [] = names
with_exports names (e ∷ es) = with_exports (if e.kind == 0 then set names e.index e.name else names) es

-- The names before and after an export section, if there is one.
abbrev pub NamesExported : Option Reader → List (List ℕ) → List (List ℕ) → Type 0
NamesExported None before after = after ≡ before
NamesExported (Some contents) before after = (exports : List ExportParts) × IsList EncodesExport contents exports × (after ≡ with_exports before exports)

-- The names after these associations have set some of them.
abbrev pub with_names : List (List ℕ) → List NameParts → List (List ℕ)
with_names names [] = names
with_names names (n ∷ ns) = with_names (set names n.index n.name) ns

-- After these items of a list, the next item is in error.
pub record StopsList {X : Type 0} (Encodes : List ℕ → X → Type 0) (contents : Reader) (items : List X) : Type 0 where
  pub first : Reader
  pub all : ℕ
  pub count : HasRead (EncodesUnsigned 32) all contents first
  pub end : Reader
  pub occur : ItemsOccur Encodes first items end
  pub fewer : length items < all
  pub error : Error
  pub refused : IsRefusal Encodes error end

-- The items of a list before any error. There are none if their number is in error.
abbrev pub ReadsItems : {X : Type 0} → (List ℕ → X → Type 0) → Reader → List X → Type 0
ReadsItems Encodes contents items =
    IsList Encodes contents items ⊎ (StopsList Encodes contents items ⊎ ((error : Error) × IsRefusal (EncodesUnsigned 32) error contents × (items ≡ [])))

-- The name of an import, if it is a function.
abbrev pub function_name : ImportParts → List (List ℕ)
function_name i = if i.kind == 0 then (i.module_name ++ (codes "." ++ i.name)) ∷ [] else []

-- The names of the functions in an import section, if there is one, up to an error.
abbrev pub NamesImported : Option Reader → List (List ℕ) → Type 0
NamesImported None names = names ≡ []
NamesImported (Some contents) names = (imports : List ImportParts) × ReadsItems EncodesImport contents imports × (names ≡ flat_map function_name imports)

-- The names in the first subsection 1 of a custom section `name`, up to an error. There are none if
-- no such subsection comes before an error.
pub record GivesNames (contents : Reader) (names : List NameParts) : Type 0 where
  pub before : List SectionParts
  pub mid : Reader
  pub occur : SectionsOccur contents before mid
  pub others : first_with 1 before ≡ None
  pub gives :
      ((s : SectionParts) × (next : Reader) × HasRead (EncodesSection mid.features) s mid next × (s.id ≡ 1) × ReadsItems EncodesNameAssociation s.contents names) ⊎
      ((names ≡ []) × ((rest mid ≡ []) ⊎ ((error : Error) × IsRefusal (EncodesSection mid.features) error mid)))

-- The names before and after a custom section `name`, if there is one.
abbrev pub NamesGiven : Option Reader → List (List ℕ) → List (List ℕ) → Type 0
NamesGiven None before after = after ≡ before
NamesGiven (Some contents) before after = (names : List NameParts) × GivesNames contents names × (after ≡ with_names before names)

-- The section is a custom section `name` with these contents.
abbrev pub IsNames : SectionParts → Reader → Type 0
IsNames s contents = (s.id ≡ 0) × HasRead EncodesName (codes "name") s.contents contents

-- None of these sections is a custom section `name`.
abbrev pub NoneIsNames : List SectionParts → Type 0
NoneIsNames [] = Unit {0}
NoneIsNames (s ∷ ss) = ((contents : Reader) → IsNames s contents → ⊥) × NoneIsNames ss

-- The contents of the last custom section `name` among these sections, if there is one.
abbrev pub LastNames : List SectionParts → Option Reader → Type 0
LastNames sections None = NoneIsNames sections
LastNames sections (Some contents) = (before after : List SectionParts) × (s : SectionParts) × (sections ≡ before ++ s ∷ after) × IsNames s contents × NoneIsNames after

-- The contents of a module's last custom section `name`, if any.
abbrev pub HasNames : Reader → Option Reader → Type 0
HasNames whole found = (sections : List SectionParts) × IsModule whole sections × LastNames sections found

-- The name of the module, if this subsection has the number 0 and starts with a name; otherwise no
-- bytes.
abbrev pub NamesFirst : SectionParts → List ℕ → Type 0
NamesFirst s name =
    ((s.id ≢ 0) × (name ≡ [])) ⊎
    ((s.id ≡ 0) × (((after : Reader) × HasRead EncodesName name s.contents after) ⊎ ((error : Error) × IsRefusal EncodesName error s.contents × (name ≡ []))))

-- The name of the module in the first subsection of a custom section `name`; otherwise no bytes.
abbrev pub GivesModule : Option Reader → List ℕ → Type 0
GivesModule None name = name ≡ []
GivesModule (Some contents) name =
    ((s : SectionParts) × (next : Reader) × HasRead (EncodesSection contents.features) s contents next × NamesFirst s name) ⊎
    ((error : Error) × IsRefusal (EncodesSection contents.features) error contents × (name ≡ []))
