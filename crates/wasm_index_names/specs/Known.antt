-- The names that listings of a module show, by index.
use Rattle.std.specs.Prelude.{◌≡◌, ◌⊎◌, ℕ, List, [], Bool, true, false, length, map}
use Rattle.wasm_below.specs.declared.features.WasmFeatures.{WasmFeatures}
use Rattle.wasm_below.specs.Source.{Reader, reader_of}
use Rattle.wasm_escapes.specs.Escapes.{escaped}
use Rattle.wasm_module.specs.declared.fault.ModuleFault.{ModuleFault}
use Rattle.wasm_module.specs.declared.fault.ModuleFault.TheVariants as fault
use Rattle.wasm_module.specs.ModuleFunctions.{ModuleFunctions, DescribesFunctions}
use Rattle.wasm_module.specs.Refusals.{SectionsFault}
use Rattle.wasm_module.specs.Sections.{BeginsModule}
use Rattle.wasm_index_names.specs.Lists.{NamesByIndex, LocalParts}
use Rattle.wasm_index_names.specs.Giving.{GivenNames}
use Rattle.wasm_index_names.specs.Sections.{GivesSections}

-- The names of a module's things by index, as they are shown; some may be empty.
pub record ModuleNames : Type 0 where
  pub functions : List (List ℕ)
  pub types : List (List ℕ)
  pub tables : List (List ℕ)
  pub globals : List (List ℕ)
  pub tags : List (List ℕ)
  pub segments : List (List ℕ)
  pub locals : List (List LocalParts)

-- The names of these functions, and the names that sections give.
abbrev pub names_of : List (List ℕ) → GivenNames → ModuleNames
names_of functions g =
    record {
      functions = functions;
      types = g.types.names;
      tables = g.tables.names;
      globals = g.globals.names;
      tags = g.tags.names;
      segments = g.segments.names;
      locals = g.locals.functions;
    }

abbrev pub no_names : ℕ → NamesByIndex
no_names limit = record { names = []; limit = limit; next = 0 }

-- No names, of indices below `limit`.
abbrev pub nothing_given : ℕ → GivenNames
nothing_given limit = record {
  types = no_names limit;
  tables = no_names limit;
  globals = no_names limit;
  tags = no_names limit;
  segments = no_names limit;
  locals = record { functions = []; limit = limit };
}

-- The names that the sections of these bytes give; none if the bytes start with no module's preamble.
-- A module has fewer things of a kind than bytes.
abbrev pub AreGivenIn : WasmFeatures → List ℕ → GivenNames → Type 0
AreGivenIn features bytes g =
    ((after : Reader) × BeginsModule (reader_of features 0 bytes) after × GivesSections after (nothing_given (length bytes)) g) ⊎
    ((f : ModuleFault) × SectionsFault f (reader_of features 0 bytes) × (g ≡ nothing_given (length bytes)))

-- Allocation failed while the functions were read.
abbrev pub is_memory : ModuleFault → Bool
is_memory fault.Memory = true
is_memory _ = false

-- The names of functions, escaped; none if the functions are not known.
abbrev pub NamesKnown : Reader → List (List ℕ) → Type 0
NamesKnown whole names =
    ((t : ModuleFunctions) × DescribesFunctions whole t × (names ≡ map escaped t.names)) ⊎
    (((t : ModuleFunctions) → DescribesFunctions whole t → ⊥) × (names ≡ []))

-- The names that are shown: of functions, and those that the sections give.
abbrev pub AreNames : WasmFeatures → List ℕ → ModuleNames → Type 0
AreNames features bytes names =
    (functions : List (List ℕ)) × (g : GivenNames) × NamesKnown (reader_of features 0 bytes) functions × AreGivenIn features bytes g × (names ≡ names_of functions g)

-- The names that are shown, if the functions are these.
abbrev pub AreNamesOf : ModuleFunctions → WasmFeatures → List ℕ → ModuleNames → Type 0
AreNamesOf t features bytes names = (g : GivenNames) × AreGivenIn features bytes g × (names ≡ names_of (map escaped t.names) g)
