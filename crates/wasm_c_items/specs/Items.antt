-- Tables, memories, globals, tags and segments as C structs. Specification: Binary Format, Modules.
use Rattle.std.specs.Prelude.{ℕ}
use Rattle.std.specs.Option.{unwrap_or}
use Rattle.wasm_below.specs.declared.features.WasmFeatures.{WasmFeatures}
use Rattle.wasm_below.specs.declared.types.ValType.TheVariants as value
use Rattle.wasm_below.specs.Source.{Reader, offset_of, end_of}
use Rattle.wasm_c_items.specs.declared.defined.WasmGlobal.{WasmGlobal}
use Rattle.wasm_c_items.specs.declared.defined.WasmTable.{WasmTable}
use Rattle.wasm_c_items.specs.declared.segments.WasmData.{WasmData}
use Rattle.wasm_c_items.specs.declared.segments.WasmElement.{WasmElement}
use Rattle.wasm_c_sections.specs.declared.external.WasmExternal.{WasmExternal}
use Rattle.wasm_c_sections.specs.declared.items.WasmItems.{WasmItems}
use Rattle.wasm_c_sections.specs.declared.range.WasmRange.{WasmRange}
use Rattle.wasm_c_sections.specs.Externals.{no_type, table_of, memory_of, global_of, indexed}
use Rattle.wasm_c_sections.specs.Items.{items_at}
use Rattle.wasm_c_sections.specs.Ranges.{no_range, range_of, ending_at}
use Rattle.wasm_constants.specs.Constants.{const_expr}
use Rattle.wasm_externals.specs.declared.memory_type.MemoryType.{MemoryType}
use Rattle.wasm_externals.specs.declared.tag_type.TagType.{TagType}
use Rattle.wasm_externals.specs.Globals.{tag_type}
use Rattle.wasm_grammars.specs.Grammar.{Grammar}
use Rattle.wasm_sections.specs.Items.{Counted}
use Rattle.wasm_segments.specs.declared.data.Data.{Data}
use Rattle.wasm_segments.specs.declared.data.DataKind.{DataKind}
use Rattle.wasm_segments.specs.declared.data.DataKind.TheVariants as data_kind
use Rattle.wasm_segments.specs.declared.element.Element.{Element}
use Rattle.wasm_segments.specs.declared.element.ElementItems.{ElementItems}
use Rattle.wasm_segments.specs.declared.element.ElementItems.TheVariants as list
use Rattle.wasm_segments.specs.declared.element.ElementKind.{ElementKind}
use Rattle.wasm_segments.specs.declared.element.ElementKind.TheVariants as kind
use Rattle.wasm_segments.specs.declared.global.Global.{Global}
use Rattle.wasm_segments.specs.declared.table.Table.{Table}
use Rattle.wasm_segments.specs.declared.table.TableInit.{TableInit}
use Rattle.wasm_segments.specs.declared.table.TableInit.TheVariants as init
use Rattle.wasm_segments.specs.Elements.{element}
use Rattle.wasm_segments.specs.Globals.{global, table}
use Rattle.wasm_segments.specs.Segments.{data_segment}
use Rattle.wasm_view.specs.declared.members.WasmType.{WasmType}
use Rattle.wasm_view.specs.Members.{type_of}

-- A table, as an item of its section; the constant expression is a reader of its bytes.
abbrev pub table_item : WasmFeatures → Grammar (Table Reader)
table_item features = table features (const_expr features)

-- A global, as an item of its section.
abbrev pub global_item : WasmFeatures → Grammar (Global Reader)
global_item features = global features (const_expr features)

-- An element segment, as an item of its section.
abbrev pub element_item : WasmFeatures → Grammar (Element Reader)
element_item features = element features (const_expr features)

-- A data segment, as an item of its section.
abbrev pub data_item : WasmFeatures → Grammar (Data Reader)
data_item features = data_segment (const_expr features)

-- A tag, as an item of its section.
abbrev pub tag_item : WasmFeatures → Grammar TagType
tag_item features = tag_type

-- Where a constant expression is.
abbrev pub constant_range : Reader → WasmRange
constant_range r = range_of (offset_of r) (end_of r)

-- The C struct of a constant expression: where it is.
abbrev pub constant_view : ℕ → ℕ → Reader → WasmRange
constant_view end features r = constant_range r

-- The C struct of a memory.
abbrev pub memory_view : ℕ → ℕ → MemoryType → WasmExternal
memory_view end features m = memory_of m

-- The C struct of a tag.
abbrev pub tag_view : ℕ → ℕ → TagType → WasmExternal
tag_view end features t = indexed 4 t.func_type_idx

abbrev pub init_range : TableInit Reader → WasmRange
init_range init.RefNull = no_range
init_range (init.Expr r) = constant_range r

-- The C struct of a table; without an initial value, it has no bytes.
abbrev pub table_view : ℕ → ℕ → Table Reader → WasmTable
table_view end features t = record { ty = table_of t.ty; value = init_range t.init }

-- The C struct of a global.
abbrev pub global_view : ℕ → ℕ → Global Reader → WasmGlobal
global_view end features g = record { ty = global_of g.ty; value = constant_range g.init_expr }

-- The number of an element segment's kind, its table, and where its start is.
abbrev pub element_start : ElementKind Reader → ℕ × ℕ × WasmRange
element_start kind.Passive = (0, 0, no_range)
element_start (kind.Active index r) = (1, unwrap_or index 0, constant_range r)
element_start kind.Declared = (2, 0, no_range)

abbrev pub list_of : Counted → ℕ → WasmItems
list_of s features = items_at s.reader s.count features

-- The form of the elements, the type of constant expressions, and the list.
abbrev pub element_items : ℕ → ElementItems Reader → ℕ × WasmType × WasmItems
element_items features (list.Functions s) = (0, no_type, list_of s features)
element_items features (list.Expressions ty s) = (1, type_of (value.Ref ty), list_of s features)

-- The C struct of an element segment.
abbrev pub element_view : ℕ → ℕ → Element Reader → WasmElement
element_view end features e = record {
  start = (element_start e.kind).2;
  items = (element_items features e.items).2;
  ty = (element_items features e.items).1;
  kind = (element_start e.kind).0;
  table = (element_start e.kind).1;
  form = (element_items features e.items).0;
  reserved = 0;
}

abbrev pub data_start : WasmRange → DataKind Reader → WasmData
data_start bytes data_kind.Passive = record { start = no_range; bytes = bytes; kind = 0; memory = 0 }
data_start bytes (data_kind.Active index r) = record { start = constant_range r; bytes = bytes; kind = 1; memory = index }

-- The C struct of a data segment, which ends at this offset.
abbrev pub data_view : ℕ → ℕ → Data Reader → WasmData
data_view end features d = data_start (ending_at end d.«data») d.kind
