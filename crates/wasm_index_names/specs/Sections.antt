-- What sections give: names, one section after another. Specification: Binary Format, Modules;
-- Custom Sections, Name Section.
use Rattle.std.specs.Prelude.{◌≡◌, ◌≢◌, ◌⊎◌, ℕ, List, [], ◌∷◌, Bool, true, false, nat_eq, Ok, codes}
use Rattle.std.specs.Cmp.Lexicographic.{pointwise}
use Rattle.wasm_below.specs.declared.error.Error.{Error}
use Rattle.wasm_below.specs.Source.{Reader, rest, offset_of}
use Rattle.wasm_externals.specs.Externals.{import, export}
use Rattle.wasm_externals.specs.Texts.{text}
use Rattle.wasm_grammars.specs.Grammar.{HasReadBy}
use Rattle.wasm_grammars.specs.Reading.{Fails}
use Rattle.wasm_module.specs.Module.{SectionParts, EncodesSection, SectionFault}
use Rattle.wasm_module.specs.Refusals.{IsRefusedAs}
use Rattle.wasm_module.specs.Sections.{SectionsOccur}
use Rattle.wasm_names.specs.declared.name.Name.{Name}
use Rattle.wasm_names.specs.declared.name.Name.TheVariants as name
use Rattle.wasm_names.specs.Names.{naming, indirect_naming}
use Rattle.wasm_names.specs.Subsections.{ReadsSubsection, FailsSubsection}
use Rattle.wasm_sections.specs.Items.{Counted}
use Rattle.wasm_index_names.specs.Lists.{NamesByIndex, LocalsByFunction}
use Rattle.wasm_index_names.specs.Giving.{GivenNames, GivesItems, GivesCounted, names_thing, names_exported, names_locals, names_imported}

-- A map of names in the name section.
abbrev pub GivesMap : Counted → NamesByIndex → NamesByIndex → Type 0
GivesMap = GivesItems (λ features. naming) names_thing

-- The maps of names of locals in the name section.
abbrev pub GivesLocals : Counted → LocalsByFunction → LocalsByFunction → Type 0
GivesLocals = GivesItems indirect_naming names_locals

-- A subsection of the name section gives names of types, tables, globals, data segments, tags or
-- locals; another gives none.
abbrev pub GivesName : Name → GivenNames → GivenNames → Type 0
GivesName (name.Type map) old new =
    GivesMap map old.types new.types × (new.tables ≡ old.tables) × (new.globals ≡ old.globals) × (new.tags ≡ old.tags) × (new.segments ≡ old.segments) ×
    (new.locals ≡ old.locals)
GivesName (name.Table map) old new =
    GivesMap map old.tables new.tables × (new.types ≡ old.types) × (new.globals ≡ old.globals) × (new.tags ≡ old.tags) × (new.segments ≡ old.segments) ×
    (new.locals ≡ old.locals)
GivesName (name.Global map) old new =
    GivesMap map old.globals new.globals × (new.types ≡ old.types) × (new.tables ≡ old.tables) × (new.tags ≡ old.tags) × (new.segments ≡ old.segments) ×
    (new.locals ≡ old.locals)
GivesName (name.Tag map) old new =
    GivesMap map old.tags new.tags × (new.types ≡ old.types) × (new.tables ≡ old.tables) × (new.globals ≡ old.globals) × (new.segments ≡ old.segments) ×
    (new.locals ≡ old.locals)
GivesName (name.Data map) old new =
    GivesMap map old.segments new.segments × (new.types ≡ old.types) × (new.tables ≡ old.tables) × (new.globals ≡ old.globals) × (new.tags ≡ old.tags) ×
    (new.locals ≡ old.locals)
GivesName (name.Local map) old new =
    GivesLocals map old.locals new.locals × (new.types ≡ old.types) × (new.tables ≡ old.tables) × (new.globals ≡ old.globals) × (new.tags ≡ old.tags) ×
    (new.segments ≡ old.segments)
GivesName _ old new = new ≡ old

-- Between two readers are these subsections, which give their names one after another.
abbrev pub AreNamed : Reader → List Name → Reader → GivenNames → GivenNames → Type 0
AreNamed r [] end old new = (end ≡ r) × (new ≡ old)
AreNamed r (n ∷ ns) end old new = (mid : Reader) × ReadsSubsection (Ok n) r mid × (between : GivenNames) × GivesName n old between × AreNamed mid ns end between new

-- All subsections give their names; or those before the first that is in error.
abbrev pub GivesNames : Reader → GivenNames → GivenNames → Type 0
GivesNames first old new =
    (names : List Name) × (end : Reader) × AreNamed first names end old new × ((rest end ≡ []) ⊎ ((e : Error) × FailsSubsection e end))

-- The section is the one with names of things.
abbrev pub is_name : List ℕ → Bool
is_name own = pointwise nat_eq own (codes "name")

-- The data of a custom section, which gives names if the section is called `name`.
abbrev pub GivesIf : Bool → Reader → GivenNames → GivenNames → Type 0
GivesIf true contents old new = GivesNames contents old new
GivesIf false contents old new = new ≡ old

-- A custom section; it gives nothing if its name is in error.
abbrev pub GivesCustom : Reader → GivenNames → GivenNames → Type 0
GivesCustom contents old new =
    ((own : List ℕ) × (after : Reader) × HasReadBy text own contents after × GivesIf (is_name own) after old new) ⊎
    ((e : Error) × Fails text (offset_of contents) e contents × (new ≡ old))

-- The exports name globals.
abbrev pub GivesExports : Reader → GivenNames → GivenNames → Type 0
GivesExports contents old new =
    GivesCounted (λ features. export) names_exported contents old.globals new.globals × (new.types ≡ old.types) × (new.tables ≡ old.tables) × (new.tags ≡ old.tags) ×
    (new.segments ≡ old.segments) × (new.locals ≡ old.locals)

-- A section with this id gives names: imports, exports, or a custom section. Others give none.
pub data GivesSection (id : ℕ) (contents : Reader) (old new : GivenNames) : Type 0 where
  is_custom : id ≡ 0 → GivesCustom contents old new → GivesSection id contents old new
  is_imports : id ≡ 2 → GivesCounted import names_imported contents old new → GivesSection id contents old new
  is_exports : id ≡ 7 → GivesExports contents old new → GivesSection id contents old new
  is_other : id ≢ 0 → id ≢ 2 → id ≢ 7 → new ≡ old → GivesSection id contents old new

-- Sections give their names one after another.
abbrev pub AreGivenBy : GivenNames → List SectionParts → GivenNames → Type 0
AreGivenBy old [] new = new ≡ old
AreGivenBy old (s ∷ ss) new = (mid : GivenNames) × GivesSection s.id s.contents old mid × AreGivenBy mid ss new

-- All sections give their names; or those before the first that is in error.
abbrev pub GivesSections : Reader → GivenNames → GivenNames → Type 0
GivesSections first old new =
    (sections : List SectionParts) × (end : Reader) × SectionsOccur first sections end × AreGivenBy old sections new ×
    ((rest end ≡ []) ⊎ ((e : Error) × IsRefusedAs (EncodesSection end.features) SectionFault e end))
