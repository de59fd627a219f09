-- Specification: Binary Format, Modules: Indices, Import Section, Function Section.
use Rattle.std.specs.Prelude.{◌≡◌, ◌==◌, ◌+◌, ◌^◌, ◌-◌, ◌<◌, ◌≤◌, ℕ, List, [], ◌∷◌, ◌++◌, Option, Some, None, min, length, replicate, slice_get, slice_index_or, if◌then◌else◌}
use Rattle.std.specs.List.{All}
use Rattle.wasm_below.specs.Number.{EncodesUnsigned}
use Rattle.wasm_below.specs.Source.{Reader}
use Rattle.wasm_module.specs.Imports.{ImportParts, EncodesImport}
use Rattle.wasm_module.specs.Items.{IsList}
use Rattle.wasm_module.specs.FunctionNames.{NamesImported, NamesExported, NamesGiven, HasNames, GivesModule}
use Rattle.wasm_module.specs.Parameters.{CountsParameters}
use Rattle.wasm_module.specs.Sections.{IsSection}

-- The number of functions among these imports.
abbrev pub functions_in : List ImportParts → ℕ
functions_in [] = 0
functions_in (i ∷ is) = (if i.kind == 0 then 1 else 0) + functions_in is

-- The number of imported functions, each type's number of parameters, the types of the defined
-- functions, and all functions' names.
pub record ModuleFunctions : Type 0 where
  pub imported : ℕ
  pub parameters : List ℕ
  pub types : List ℕ
  pub names : List (List ℕ)

-- The import is of one of the five kinds.
abbrev pub IsKnownImport : ImportParts → Type 0
IsKnownImport i = i.kind < 5

-- The number of imported functions in an import section, if there is one.
abbrev pub CountsImports : Option Reader → ℕ → Type 0
CountsImports None n = n ≡ 0
CountsImports (Some contents) n = (imports : List ImportParts) × IsList EncodesImport contents imports × All IsKnownImport imports × (n ≡ functions_in imports)

-- The types of the functions in a function section, if there is one.
abbrev pub ListsTypes : Option Reader → List ℕ → Type 0
ListsTypes None types = types ≡ []
ListsTypes (Some contents) types = IsList (EncodesUnsigned 32) contents types

-- The names of all functions, by index: the imported ones, then `count` defined ones. Names of
-- exports replace names of imports; names of the custom section `name` replace both.
pub record NamesFunctions (whole : Reader) (count : ℕ) (names : List (List ℕ)) : Type 0 where
  pub imports : Option Reader
  pub section_of_imports : IsSection whole 2 imports
  pub imported : List (List ℕ)
  pub from_imports : NamesImported imports imported
  pub exports : Option Reader
  pub section_of_exports : IsSection whole 7 exports
  pub exported : List (List ℕ)
  pub from_exports : NamesExported exports (imported ++ replicate count []) exported
  pub given : Option Reader
  pub section_of_names : HasNames whole given
  pub from_names : NamesGiven given exported names

-- What the sections of a module say about its functions.
pub record DescribesFunctions (whole : Reader) (t : ModuleFunctions) : Type 0 where
  pub imports : Option Reader
  pub section_of_imports : IsSection whole 2 imports
  pub imported : CountsImports imports t.imported
  pub functions : Option Reader
  pub section_of_functions : IsSection whole 3 functions
  pub types : ListsTypes functions t.types
  pub signatures : Option Reader
  pub section_of_types : IsSection whole 1 signatures
  pub parameters : CountsParameters signatures t.parameters
  pub names : NamesFunctions whole (length t.types) t.names

-- A defined function's index: imported functions come first. At most 4294967295.
abbrev pub index_of : ModuleFunctions → ℕ → ℕ
index_of t ordinal = min (t.imported + ordinal) (2 ^ 32 - 1)

-- The module defines the function with this index.
abbrev pub IsDefined : ModuleFunctions → ℕ → Type 0
IsDefined t index = (t.imported ≤ index) × (index < t.imported + length t.types)

-- A type's number of parameters, or 0 if the type is not known.
abbrev pub parameters_of_type : List ℕ → Option ℕ → ℕ
parameters_of_type parameters None = 0
parameters_of_type parameters (Some ty) = slice_index_or parameters ty 0

-- The number of parameters of a defined function.
abbrev pub parameters_at : ModuleFunctions → ℕ → ℕ
parameters_at t ordinal = parameters_of_type t.parameters (slice_get t.types ordinal)

-- The module's name, from its last custom section `name`; empty without one.
abbrev pub NamesModule : Reader → List ℕ → Type 0
NamesModule whole name = (found : Option Reader) × HasNames whole found × GivesModule found name
