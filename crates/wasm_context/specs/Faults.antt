-- What is wrong with a part of a module, if anything is.
-- WebAssembly Core Specification 3.0: Validation, Types; Validation, Modules; Appendix, Implementation
-- Limitations.
use Rattle.std.specs.Prelude.{◌≡◌, ℕ, nat_lt, ◌==◌, Bool, true, false, List, [], ◌∷◌, length, if◌then◌else◌, Option, Some, None, Result, Ok, Err, ◌⊎◌}
use Rattle.wasm_below.specs.Reference.{Reference}
use Rattle.wasm_below.specs.declared.types.HeapType.{HeapType}
use Rattle.wasm_below.specs.declared.types.HeapType.TheVariants as heap_type
use Rattle.wasm_below.specs.declared.types.ValType.{ValType}
use Rattle.wasm_below.specs.declared.types.ValType.TheVariants as value
use Rattle.wasm_externals.specs.declared.external.ExternalKind.{ExternalKind}
use Rattle.wasm_externals.specs.declared.external.ExternalKind.TheVariants as kind
use Rattle.wasm_externals.specs.declared.external.TypeRef.{TypeRef}
use Rattle.wasm_externals.specs.declared.external.TypeRef.TheVariants as external
use Rattle.wasm_externals.specs.declared.global_type.GlobalType.{GlobalType}
use Rattle.wasm_externals.specs.declared.memory_type.MemoryType.{MemoryType}
use Rattle.wasm_externals.specs.declared.table_type.TableType.{TableType}
use Rattle.wasm_externals.specs.declared.tag_type.TagType.{TagType}
use Rattle.wasm_types.specs.declared.composites.CompositeInnerType.{CompositeInnerType}
use Rattle.wasm_types.specs.declared.composites.CompositeInnerType.TheVariants as inner
use Rattle.wasm_subtypes.specs.declared.error.TypeError.{TypeError}
use Rattle.wasm_context.specs.declared.error.ContextError.{ContextError}
use Rattle.wasm_context.specs.declared.error.ContextError.TheVariants as error
use Rattle.wasm_context.specs.declared.error.Counted.{Counted}
use Rattle.wasm_context.specs.declared.error.Counted.TheVariants as counted
use Rattle.wasm_context.specs.Components.{Components, with_function, with_table, with_memory, with_global, with_tag, with_declared, with_name}
use Rattle.wasm_context.specs.Names.{has_name}
use Rattle.wasm_context.specs.Environment.{expanded, environment_of}
use Rattle.wasm_context.specs.Unsupported.{unsupported_heap, unsupported_type, first_unsupported}
use Rattle.wasm_context.specs.declared.unsupported.Unsupported.{Unsupported}
use Rattle.wasm_context.specs.declared.unsupported.Unsupported.TheVariants as unsupported
use Rattle.wasm_types.specs.declared.recursive.SubType.{SubType}
use Rattle.wasm_typing.specs.Types.{Stack, FunctionType}

abbrev pub or_else : Option ContextError → Option ContextError → Option ContextError
or_else (Some e) other = Some e
or_else None other = other

-- Limits of wasmparser, not of the specification.
abbrev pub most : Counted → ℕ
most counted.Functions = 1000000
most counted.Tables = 100
most counted.Memories = 100
most counted.Globals = 1000000
most counted.Tags = 1000000
most counted.ElementSegments = 100000
most counted.DataSegments = 100000
most counted.Exports = 1000000

-- There may not be one more.
abbrev pub limit_fault : ℕ → Counted → Option ContextError
limit_fault n what = if nat_lt n (most what) then None else Some (error.TooMany what)

abbrev pub index_fault : ℕ → ℕ → Option ContextError
index_fault n x = if nat_lt x n then None else Some (error.UnknownType x)

-- The heap type has a type index that is not below `n`.
abbrev pub heap_index_fault : ℕ → HeapType → Option ContextError
heap_index_fault n (heap_type.Abstract shared t) = None
heap_index_fault n (heap_type.Concrete x) = index_fault n x
heap_index_fault n (heap_type.Exact x) = index_fault n x

abbrev pub unsupported_fault : Option Unsupported → Option ContextError
unsupported_fault None = None
unsupported_fault (Some what) = Some (error.Unsupported what)

-- The heap type is not supported, or its type index is not below `n`.
abbrev pub heap_fault : ℕ → HeapType → Option ContextError
heap_fault n h = or_else (unsupported_fault (unsupported_heap h)) (heap_index_fault n h)

abbrev pub value_fault : ℕ → ValType → Option ContextError
value_fault n (value.Ref r) = heap_fault n r.heap_type
value_fault n _ = None

-- The composite type at an index is not the type of a function.
abbrev pub use_fault : ℕ → Option CompositeInnerType → Option ContextError
use_fault x None = Some (error.UnknownType x)
use_fault x (Some (inner.Func f)) = None
use_fault x (Some t) = Some (error.NotFunction x)

-- The type of a tag has no results: an exception has none.
abbrev pub results_fault : List ValType → Option ContextError
results_fault [] = None
results_fault (t ∷ ts) = Some error.TagResults

abbrev pub tag_use_fault : ℕ → Option CompositeInnerType → Option ContextError
tag_use_fault x (Some (inner.Func f)) = results_fault f.results
tag_use_fault x t = use_fault x t

-- A group of types has a part that is not supported.
abbrev pub group_fault : List SubType → Option ContextError
group_fault types = unsupported_fault (first_unsupported unsupported_type types)

-- A function of this type cannot be added.
abbrev pub function_fault : Components → ℕ → Option ContextError
function_fault c x = or_else (limit_fault (length c.functions) counted.Functions) (use_fault x (expanded c.types x))

-- The minimum of limits is greater than the maximum.
abbrev pub minimum_fault : ℕ → Option ℕ → Option ContextError
minimum_fault n None = None
minimum_fault n (Some m) = if nat_lt m n then Some error.MinimumAboveMaximum else None

-- The greatest size within limits, or the least if there is no greatest.
abbrev pub largest : ℕ → Option ℕ → ℕ
largest n None = n
largest n (Some m) = m

-- A size is greater than permitted.
abbrev pub size_fault : ℕ → ℕ → ContextError → Option ContextError
size_fault most n e = if nat_lt most n then Some e else None

-- A page has 65536 bytes. With the proposal custom page sizes, it may have one.
abbrev pub page_size_fault : Option ℕ → Option ContextError
page_size_fault None = None
page_size_fault (Some log2) = if log2 == 0 then None else if log2 == 16 then None else Some error.PageSize

abbrev pub page_bytes : Option ℕ → ℕ
page_bytes None = 65536
page_bytes (Some log2) = if log2 == 0 then 1 else 65536

-- The greatest number of pages: 2^32 bytes, or 2^64. Of pages of one byte there is one less, so that the
-- number has the type of an address.
abbrev pub most_pages : Bool → Option ℕ → ℕ
most_pages true log2 = if page_bytes log2 == 1 then 18446744073709551615 else 281474976710656
most_pages false log2 = if page_bytes log2 == 1 then 4294967295 else 65536

-- A shared memory has no maximum.
abbrev pub shared_fault : Bool → Option ℕ → Option ContextError
shared_fault true None = Some error.SharedWithoutMaximum
shared_fault _ m = None

-- A memory type is not valid. Validation, Types, Memory Types.
abbrev pub memory_type_fault : MemoryType → Option ContextError
memory_type_fault t = or_else (minimum_fault t.initial t.maximum) (or_else (page_size_fault t.page_size_log2) (or_else
    (size_fault (most_pages t.memory64 t.page_size_log2) (largest t.initial t.maximum) (error.MemorySize (most_pages t.memory64 t.page_size_log2) (page_bytes t.page_size_log2)))
    (shared_fault t.shared t.maximum)))

-- The greatest number of elements of a table.
abbrev pub most_elements : Bool → ℕ
most_elements true = 18446744073709551615
most_elements false = 4294967295

-- Something that is shared between threads.
abbrev pub sharing_fault : Bool → Unsupported → Option ContextError
sharing_fault shared what = if shared then Some (error.Unsupported what) else None

-- The limits of a table type are not valid. Validation, Types, Table Types.
abbrev pub table_limits_fault : TableType → Option ContextError
table_limits_fault t = or_else (minimum_fault t.initial t.maximum) (or_else (sharing_fault t.shared unsupported.SharedTable)
    (size_fault (most_elements t.table64) (largest t.initial t.maximum) (error.TableSize (most_elements t.table64))))

-- A table of this type cannot be added.
abbrev pub table_fault : Components → TableType → Option ContextError
table_fault c t = or_else (limit_fault (length c.tables) counted.Tables) (or_else (heap_fault (length c.types) t.element_type.heap_type) (table_limits_fault t))

-- A memory of this type cannot be added.
abbrev pub memory_fault : Components → MemoryType → Option ContextError
memory_fault c t = or_else (limit_fault (length c.memories) counted.Memories) (memory_type_fault t)

-- A global of this type cannot be added.
abbrev pub global_fault : Components → GlobalType → Option ContextError
global_fault c t = or_else (limit_fault (length c.globals) counted.Globals) (or_else (value_fault (length c.types) t.content_type) (sharing_fault t.shared unsupported.SharedGlobal))

-- A tag of this type cannot be added.
abbrev pub tag_fault : Components → TagType → Option ContextError
tag_fault c t = or_else (limit_fault (length c.tags) counted.Tags) (tag_use_fault t.func_type_idx (expanded c.types t.func_type_idx))

-- An element segment of this type cannot be added.
abbrev pub element_fault : Components → Reference → Option ContextError
element_fault c t = or_else (limit_fault (length c.elements) counted.ElementSegments) (heap_fault (length c.types) t.heap_type)

-- There may not be so many data segments.
abbrev pub data_fault : ℕ → Option ContextError
data_fault n = if nat_lt (most counted.DataSegments) n then Some (error.TooMany counted.DataSegments) else None

-- How many there are of a kind.
abbrev pub count_of : Components → ExternalKind → ℕ
count_of c kind.Func = length c.functions
count_of c kind.Table = length c.tables
count_of c kind.Memory = length c.memories
count_of c kind.Global = length c.globals
count_of c kind.Tag = length c.tags

-- There is nothing with this index.
abbrev pub external_fault : Components → ExternalKind → ℕ → Option ContextError
external_fault c k x = if nat_lt x (count_of c k) then None else Some (error.Unknown k x)

-- An export before has this name. Validation, Modules: all export names are different.
abbrev pub name_fault : Components → List ℕ → Option ContextError
name_fault c name = if has_name c.exports name then Some error.DuplicateExport else None

-- There are too many exports, or nothing to export with this index, or an export before has this name.
abbrev pub export_fault : Components → ExternalKind → ℕ → List ℕ → Option ContextError
export_fault c k x name = or_else (limit_fault (length c.exports) counted.Exports) (or_else (external_fault c k x) (name_fault c name))

-- The type of a start function has no parameters and no results.
abbrev pub start_type_fault : Stack → Stack → Option ContextError
start_type_fault [] [] = None
start_type_fault _ _ = Some error.StartType

abbrev pub start_use_fault : ℕ → Option FunctionType → Option ContextError
start_use_fault x None = Some (error.Unknown kind.Func x)
start_use_fault x (Some t) = start_type_fault t.takes t.leaves

-- The function with this index is no start function. Validation, Modules, Start Function.
abbrev pub start_fault : Components → ℕ → Option ContextError
start_fault c x = start_use_fault x ((environment_of c).functions x)

-- What is imported cannot be added.
abbrev pub import_fault : Components → TypeRef → Option ContextError
import_fault c (external.Func x) = function_fault c x
import_fault c (external.Table t) = table_fault c t
import_fault c (external.Memory t) = memory_fault c t
import_fault c (external.Global t) = global_fault c t
import_fault c (external.Tag t) = tag_fault c t

-- One more component of the kind that is imported.
abbrev pub with_import : Components → TypeRef → Components
with_import c (external.Func x) = with_function c x
with_import c (external.Table t) = with_table c t
with_import c (external.Memory t) = with_memory c t
with_import c (external.Global t) = with_global c t
with_import c (external.Tag t) = with_tag c t

-- An export declares the function that it exports.
abbrev pub with_exported : Components → ExternalKind → ℕ → Components
with_exported c kind.Func x = with_declared c x
with_exported c _ x = c

-- One more export.
abbrev pub with_export : Components → ExternalKind → ℕ → List ℕ → Components
with_export c k x name = with_name (with_exported c k x) name

-- If nothing is wrong, the components become `more`. On an error they are unchanged.
abbrev pub Changes : Option ContextError → Components → Result Unit ContextError → Components → Components → Type 0
Changes fault more (Ok u) old new = (fault ≡ None) × (new ≡ more)
Changes fault more (Err e) old new = (new ≡ old) × (fault ≡ Some e)

-- The same, unless allocation fails.
abbrev pub Adds : Option ContextError → Components → Result Unit ContextError → Components → Components → Type 0
Adds fault more (Ok u) old new = Changes fault more (Ok u) old new
Adds fault more (Err e) old new = ((new ≡ old) × (e ≡ error.OutOfMemory)) ⊎ Changes fault more (Err e) old new

-- An error of a group of types, with its cause: a part is not supported; else the types do not fit.
abbrev pub BlamesTypes : ContextError → Option ContextError → (TypeError → Type 0) → Type 0
BlamesTypes error.OutOfMemory fault cause = Unit {0}
BlamesTypes (error.Type e) fault cause = (fault ≡ None) × cause e
BlamesTypes (error.Unsupported what) fault cause = fault ≡ Some (error.Unsupported what)
BlamesTypes _ fault cause = ⊥
