-- What items of sections give: names, one after another. Specification: Binary Format, Import Section,
-- Export Section; Custom Sections, Name Section.
use Rattle.std.specs.Prelude.{◌≡◌, ◌⊎◌, ℕ, ◌+◌, List, [], ◌∷◌, ◌++◌, length, codes}
use Rattle.wasm_below.specs.declared.error.Error.{Error}
use Rattle.wasm_below.specs.declared.features.WasmFeatures.{WasmFeatures}
use Rattle.wasm_below.specs.Source.{Reader, offset_of}
use Rattle.wasm_escapes.specs.Escapes.{escaped}
use Rattle.wasm_externals.specs.declared.export.Export.{Export}
use Rattle.wasm_externals.specs.declared.external.ExternalKind.{ExternalKind}
use Rattle.wasm_externals.specs.declared.external.ExternalKind.TheVariants as kind
use Rattle.wasm_externals.specs.declared.external.TypeRef.{TypeRef}
use Rattle.wasm_externals.specs.declared.external.TypeRef.TheVariants as ty
use Rattle.wasm_externals.specs.declared.import.Import.{Import}
use Rattle.wasm_grammars.specs.Grammar.{Grammar, HasReadBy}
use Rattle.wasm_grammars.specs.Parts.{u32}
use Rattle.wasm_grammars.specs.Reading.{Fails}
use Rattle.wasm_names.specs.declared.indirect.IndirectNaming.{IndirectNaming}
use Rattle.wasm_names.specs.declared.naming.Naming.{Naming}
use Rattle.wasm_names.specs.Names.{naming}
use Rattle.wasm_sections.specs.Items.{Counted, ItemsLeft, IsDone, StopsItems}
use Rattle.wasm_index_names.specs.Lists.{NamesByIndex, with_name, with_import, LocalParts, LocalsByFunction, with_locals}

-- What an item does to a state: the state before, the item, and the state after.
abbrev pub Giving : Type 0 → Type 0 → Type 1
Giving S X = S → X → S → Type 0

-- Between two readers, the bytes are these items.
abbrev pub ItemsOccur : {X : Type 0} → (WasmFeatures → Grammar X) → Reader → List X → Reader → Type 0
ItemsOccur g r [] end = end ≡ r
ItemsOccur g r (x ∷ xs) end = (mid : Reader) × HasReadBy (g r.features) x r mid × ItemsOccur g mid xs end

-- Items are given one after another.
abbrev pub AreGiven : {S X : Type 0} → Giving S X → S → List X → S → Type 0
AreGiven gives old [] new = new ≡ old
AreGiven {S} gives old (x ∷ xs) new = (mid : S) × gives old x mid × AreGiven gives mid xs new

-- The first items are given. These are left.
pub record GivesFirst {S X : Type 0} (g : WasmFeatures → Grammar X) (gives : Giving S X) (s : Counted) (left : ItemsLeft) (old new : S) : Type 0 where
  pub items : List X
  pub occur : ItemsOccur g s.reader items left.reader
  pub number : s.count ≡ length items + left.remaining
  pub given : AreGiven gives old items new

-- All items are given; or those before the first that is in error.
abbrev pub GivesItems : {S X : Type 0} → (WasmFeatures → Grammar X) → Giving S X → Counted → S → S → Type 0
GivesItems g gives s old new =
    (left : ItemsLeft) × GivesFirst g gives s left old new × (IsDone left ⊎ ((e : Error) × StopsItems (g left.reader.features) e left))

-- The items of a section are given; none if their number is in error.
abbrev pub GivesCounted : {S X : Type 0} → (WasmFeatures → Grammar X) → Giving S X → Reader → S → S → Type 0
GivesCounted g gives contents old new =
    ((s : Counted) × HasReadBy u32 s.count contents s.reader × GivesItems g gives s old new) ⊎
    ((e : Error) × Fails u32 (offset_of contents) e contents × (new ≡ old))

-- A name map gives its names, escaped.
abbrev pub names_thing : Giving NamesByIndex Naming
names_thing old n new = new ≡ with_name old n.index (escaped n.name)

-- The names of globals after an export of this kind.
abbrev pub with_export : NamesByIndex → ExternalKind → ℕ → List ℕ → NamesByIndex
with_export l kind.Global index name = with_name l index name
with_export l _ index name = l

-- An exported global has the name of the export.
abbrev pub names_exported : Giving NamesByIndex Export
names_exported old e new = new ≡ with_export old e.kind e.index (escaped e.name)

-- A name map gives the names of a function's locals, escaped.
abbrev pub names_local : Giving (List LocalParts) Naming
names_local old n new = new ≡ old ++ record { index = n.index; name = escaped n.name } ∷ []

-- The names of a function's locals.
abbrev pub names_locals : Giving LocalsByFunction IndirectNaming
names_locals old n new =
    (locals : List LocalParts) × GivesItems (λ features. naming) names_local n.names [] locals × (new ≡ with_locals old n.index locals)

-- The names of the things of a module, but its functions.
pub record GivenNames : Type 0 where
  pub types : NamesByIndex
  pub tables : NamesByIndex
  pub globals : NamesByIndex
  pub tags : NamesByIndex
  pub segments : NamesByIndex
  pub locals : LocalsByFunction

-- An import's name, escaped, after the name of its module and a point.
abbrev pub import_name : Import → List ℕ
import_name i = escaped (i.«module» ++ (codes "." ++ i.name))

-- The names after a thing of this type was imported under a name.
abbrev pub with_imported : GivenNames → TypeRef → List ℕ → GivenNames
with_imported g (ty.Table t) name =
    record { types = g.types; tables = with_import g.tables name; globals = g.globals; tags = g.tags; segments = g.segments; locals = g.locals }
with_imported g (ty.Global t) name =
    record { types = g.types; tables = g.tables; globals = with_import g.globals name; tags = g.tags; segments = g.segments; locals = g.locals }
with_imported g (ty.Tag t) name =
    record { types = g.types; tables = g.tables; globals = g.globals; tags = with_import g.tags name; segments = g.segments; locals = g.locals }
with_imported g _ name = g

-- An imported table, global or tag has the name of the import.
abbrev pub names_imported : Giving GivenNames Import
names_imported old i new = new ≡ with_imported old i.ty (import_name i)
