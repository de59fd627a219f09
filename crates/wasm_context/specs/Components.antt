-- WebAssembly Core Specification 3.0: Validation, Conventions, Contexts.
use Rattle.std.specs.Prelude.{ℕ, true, false, List, [], ◌∷◌, ◌++◌, set, Option, Some, None}
use Rattle.std.specs.List.{slice_get}
use Rattle.wasm_below.specs.Reference.{Reference}
use Rattle.wasm_externals.specs.declared.global_type.GlobalType.{GlobalType}
use Rattle.wasm_externals.specs.declared.memory_type.MemoryType.{MemoryType}
use Rattle.wasm_externals.specs.declared.table_type.TableType.{TableType}
use Rattle.wasm_externals.specs.declared.tag_type.TagType.{TagType}
use Rattle.wasm_subtypes.specs.declared.defined.Defined.{Defined}
use Rattle.wasm_context.specs.Names as names
use Rattle.wasm_context.specs.declared.function.Function.{Function}

-- The components of a context that the sections of a module give, in the order of their indices:
-- types, functions, tables, memories, globals, tags, the types of element segments, and the number of
-- data segments. The component REFS has the functions that are declared. The names of exports are in the
-- order of their bytes.
pub record Components : Type 0 where
  pub types : List Defined
  pub functions : List Function
  pub tables : List TableType
  pub memories : List MemoryType
  pub globals : List GlobalType
  pub tags : List TagType
  pub elements : List Reference
  pub data_segments : ℕ
  pub exports : List (List ℕ)

-- Only types.
abbrev pub of_types : List Defined → Components
of_types types = record { types = types; functions = []; tables = []; memories = []; globals = []; tags = []; elements = []; data_segments = 0; exports = [] }

-- These types; the other components stay.
abbrev pub with_types : Components → List Defined → Components
with_types c types = record { types = types; functions = c.functions; tables = c.tables; memories = c.memories; globals = c.globals; tags = c.tags; elements = c.elements; data_segments = c.data_segments; exports = c.exports }

-- These functions.
abbrev pub with_functions : Components → List Function → Components
with_functions c functions = record { types = c.types; functions = functions; tables = c.tables; memories = c.memories; globals = c.globals; tags = c.tags; elements = c.elements; data_segments = c.data_segments; exports = c.exports }

-- One more function, of this type.
abbrev pub with_function : Components → ℕ → Components
with_function c x = with_functions c (c.functions ++ record { type_index = x; declared = false } ∷ [])

-- One more table.
abbrev pub with_table : Components → TableType → Components
with_table c t = record { types = c.types; functions = c.functions; tables = c.tables ++ t ∷ []; memories = c.memories; globals = c.globals; tags = c.tags; elements = c.elements; data_segments = c.data_segments; exports = c.exports }

-- One more memory.
abbrev pub with_memory : Components → MemoryType → Components
with_memory c t = record { types = c.types; functions = c.functions; tables = c.tables; memories = c.memories ++ t ∷ []; globals = c.globals; tags = c.tags; elements = c.elements; data_segments = c.data_segments; exports = c.exports }

-- One more global.
abbrev pub with_global : Components → GlobalType → Components
with_global c t = record { types = c.types; functions = c.functions; tables = c.tables; memories = c.memories; globals = c.globals ++ t ∷ []; tags = c.tags; elements = c.elements; data_segments = c.data_segments; exports = c.exports }

-- One more tag.
abbrev pub with_tag : Components → TagType → Components
with_tag c t = record { types = c.types; functions = c.functions; tables = c.tables; memories = c.memories; globals = c.globals; tags = c.tags ++ t ∷ []; elements = c.elements; data_segments = c.data_segments; exports = c.exports }

-- One more element segment, of this type.
abbrev pub with_element : Components → Reference → Components
with_element c t = record { types = c.types; functions = c.functions; tables = c.tables; memories = c.memories; globals = c.globals; tags = c.tags; elements = c.elements ++ t ∷ []; data_segments = c.data_segments; exports = c.exports }

-- This many data segments.
abbrev pub with_data_segments : Components → ℕ → Components
with_data_segments c n = record { types = c.types; functions = c.functions; tables = c.tables; memories = c.memories; globals = c.globals; tags = c.tags; elements = c.elements; data_segments = n; exports = c.exports }

-- The same functions; the one in this place, if there is one, is declared.
abbrev pub declare : List Function → ℕ → Option Function → List Function
declare functions x None = functions
declare functions x (Some f) = set functions x (record { type_index = f.type_index; declared = true })

-- The function with this index is declared.
abbrev pub with_declared : Components → ℕ → Components
with_declared c x = with_functions c (declare c.functions x (slice_get c.functions x))

-- One more name of an export.
abbrev pub with_name : Components → List ℕ → Components
with_name c name = record { types = c.types; functions = c.functions; tables = c.tables; memories = c.memories; globals = c.globals; tags = c.tags; elements = c.elements; data_segments = c.data_segments; exports = names.with_name c.exports name }
