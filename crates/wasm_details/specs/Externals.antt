-- Imports, functions, tables, memories, globals, tags and exports, in the form of wabt's
-- `wasm-objdump -x`. Specification: Binary Format, Modules; External Types.
use Rattle.std.specs.Prelude.{ℕ, List, [], ◌++◌, Bool, true, false, Option, Some, None, codes, decimal}
use Rattle.wasm_below.specs.declared.types.ValType.TheVariants as value
use Rattle.wasm_escapes.specs.Escapes.{escaped}
use Rattle.wasm_externals.specs.declared.export.Export.{Export}
use Rattle.wasm_externals.specs.declared.external.ExternalKind.{ExternalKind}
use Rattle.wasm_externals.specs.declared.external.ExternalKind.TheVariants as kind
use Rattle.wasm_externals.specs.declared.external.TypeRef.{TypeRef}
use Rattle.wasm_externals.specs.declared.external.TypeRef.TheVariants as ty
use Rattle.wasm_externals.specs.declared.global_type.GlobalType.{GlobalType}
use Rattle.wasm_externals.specs.declared.import.Import.{Import}
use Rattle.wasm_externals.specs.declared.memory_type.MemoryType.{MemoryType}
use Rattle.wasm_externals.specs.declared.table_type.TableType.{TableType}
use Rattle.wasm_externals.specs.declared.tag_type.TagType.{TagType}
use Rattle.wasm_text.specs.Lines.{shown_name}
use Rattle.wasm_details.specs.declared.place.Imported.{Imported}
use Rattle.wasm_details.specs.declared.place.Place.{Place}
use Rattle.wasm_details.specs.Places.{after_index}
use Rattle.wasm_index_names.specs.Known.{ModuleNames}
use Rattle.wasm_index_names.specs.Lists.{name_at}
use Rattle.wasm_details.specs.Types.{type_name}

-- A function: its index, its type and its name.
abbrev pub function_text : ModuleNames → ℕ → ℕ → List ℕ
function_text names index ty = codes " - func[" ++ (decimal index ++ (codes "] sig=" ++ (decimal ty ++ shown_name (name_at names.functions index))))

-- The line of a function.
abbrev pub function_line : ModuleNames → ℕ → ℕ → List ℕ
function_line names index ty = function_text names index ty ++ codes "\n"

-- The greatest size, if there is one.
abbrev pub maximum_text : Option ℕ → List ℕ
maximum_text None = []
maximum_text (Some n) = codes " max=" ++ decimal n

-- Whether it is shared.
abbrev pub shared_text : Bool → List ℕ
shared_text true = codes " shared"
shared_text false = []

-- The type of addresses, unless it is i32.
abbrev pub address_text : Bool → List ℕ
address_text true = codes " i64"
address_text false = []

-- What follows the first size of a memory or table.
abbrev pub limits_text : Option ℕ → Bool → Bool → List ℕ
limits_text maximum shared is_64 = maximum_text maximum ++ (shared_text shared ++ address_text is_64)

-- The logarithm of the page size, unless it is the usual one.
abbrev pub page_text : Option ℕ → List ℕ
page_text None = []
page_text (Some n) = codes " page_size=2^" ++ decimal n

-- What follows the first size of a memory.
abbrev pub memory_limits : MemoryType → List ℕ
memory_limits m = limits_text m.maximum m.shared m.memory64 ++ page_text m.page_size_log2

-- The sizes of a memory in pages.
abbrev pub sizes_text : MemoryType → List ℕ
sizes_text m = decimal m.initial ++ memory_limits m

-- What follows the index of a memory.
abbrev pub pages_text : MemoryType → List ℕ
pages_text m = codes "] pages: initial=" ++ sizes_text m

-- A memory: its index and its sizes in pages.
abbrev pub memory_text : ℕ → MemoryType → List ℕ
memory_text index m = codes " - memory[" ++ (decimal index ++ pages_text m)

-- The line of a memory.
abbrev pub memory_line : ℕ → MemoryType → List ℕ
memory_line index m = memory_text index m ++ codes "\n"

-- A table: its index, the type of its elements and its sizes.
abbrev pub table_text : ℕ → TableType → List ℕ
table_text index t =
    codes " - table[" ++ (decimal index ++ (codes "] type=" ++ (type_name (value.Ref t.element_type) ++ (codes " initial=" ++ (decimal t.initial ++
    limits_text t.maximum t.shared t.table64)))))

-- Whether it is mutable.
abbrev pub mutable_text : Bool → List ℕ
mutable_text true = codes " mutable=1"
mutable_text false = codes " mutable=0"

-- A global: its index and its type.
abbrev pub global_text : ℕ → GlobalType → List ℕ
global_text index t =
    codes " - global[" ++ (decimal index ++ (codes "] " ++ (type_name t.content_type ++ (mutable_text t.mutable ++ shared_text t.shared))))

-- A tag: its index and its type.
abbrev pub tag_text : ℕ → TagType → List ℕ
tag_text index t = codes " - tag[" ++ (decimal index ++ (codes "] sig=" ++ decimal t.func_type_idx))

-- The line of a tag.
abbrev pub tag_line : ℕ → TagType → List ℕ
tag_line index t = tag_text index t ++ codes "\n"

-- The thing that is imported. Its index follows the imports of its kind before it.
abbrev pub imported_text : ModuleNames → Imported → TypeRef → List ℕ
imported_text names i (ty.Func t) = function_text names i.functions t
imported_text names i (ty.Table t) = table_text i.tables t
imported_text names i (ty.Memory t) = memory_text i.memories t
imported_text names i (ty.Global t) = global_text i.globals t
imported_text names i (ty.Tag t) = tag_text i.tags t ++ shown_name (name_at names.tags i.tags)

-- The thing, and the names of the import.
abbrev pub import_line : ModuleNames → Imported → Import → List ℕ
import_line names imported i =
    imported_text names imported i.ty ++ (codes " <- " ++ (escaped i.«module» ++ (codes "." ++ (escaped i.name ++ codes "\n"))))

-- What is imported after an import of this type.
abbrev pub with_import : Imported → TypeRef → Imported
with_import i (ty.Func t) = record { functions = after_index i.functions; tables = i.tables; memories = i.memories; globals = i.globals; tags = i.tags }
with_import i (ty.Table t) = record { functions = i.functions; tables = after_index i.tables; memories = i.memories; globals = i.globals; tags = i.tags }
with_import i (ty.Memory t) = record { functions = i.functions; tables = i.tables; memories = after_index i.memories; globals = i.globals; tags = i.tags }
with_import i (ty.Global t) = record { functions = i.functions; tables = i.tables; memories = i.memories; globals = after_index i.globals; tags = i.tags }
with_import i (ty.Tag t) = record { functions = i.functions; tables = i.tables; memories = i.memories; globals = i.globals; tags = after_index i.tags }

-- The place after an import.
abbrev pub after_import : Place → Import → Place
after_import place i = record { next = after_index place.next; address = place.address; imported = with_import place.imported i.ty }

-- The words before the index of what is exported.
abbrev pub kind_text : ExternalKind → List ℕ
kind_text kind.Func = codes " - func["
kind_text kind.Table = codes " - table["
kind_text kind.Memory = codes " - memory["
kind_text kind.Global = codes " - global["
kind_text kind.Tag = codes " - tag["

-- The name of a function; nothing for other kinds.
abbrev pub exported_name : ModuleNames → ExternalKind → ℕ → List ℕ
exported_name names kind.Func index = name_at names.functions index
exported_name names _ index = []

-- The thing that is exported, and the name of the export.
abbrev pub export_line : ModuleNames → Export → List ℕ
export_line names e =
    kind_text e.kind ++ (decimal e.index ++ (codes "]" ++ (shown_name (exported_name names e.kind e.index) ++ (codes " -> \"" ++ (escaped e.name ++ codes "\"\n")))))
