-- Tables, globals, element and data segments, in the form of wabt's `wasm-objdump -x`.
-- Specification: Binary Format, Table Section, Global Section, Element Section, Data Section.
use Rattle.std.specs.Prelude.{◌≡◌, ℕ, ◌+◌, ◌%◌, ◌^◌, List, [], ◌++◌, length, Option, Some, None, Result, Ok, Err, codes, decimal}
use Rattle.wasm_below.specs.Source.{Reader}
use Rattle.wasm_externals.specs.declared.global_type.GlobalType.{GlobalType}
use Rattle.wasm_externals.specs.declared.table_type.TableType.{TableType}
use Rattle.wasm_grammars.specs.Parts.{u32}
use Rattle.wasm_segments.specs.Elements.{element}
use Rattle.wasm_segments.specs.Segments.{data_segment}
use Rattle.wasm_segments.specs.declared.data.Data.{Data}
use Rattle.wasm_segments.specs.declared.data.DataKind.{DataKind}
use Rattle.wasm_segments.specs.declared.data.DataKind.TheVariants as data_kind
use Rattle.wasm_segments.specs.declared.element.Element.{Element}
use Rattle.wasm_segments.specs.declared.element.ElementItems.{ElementItems}
use Rattle.wasm_segments.specs.declared.element.ElementItems.TheVariants as items
use Rattle.wasm_segments.specs.declared.element.ElementKind.{ElementKind}
use Rattle.wasm_segments.specs.declared.element.ElementKind.TheVariants as kind
use Rattle.wasm_segments.specs.declared.global.Global.{Global}
use Rattle.wasm_segments.specs.declared.table.Table.{Table}
use Rattle.wasm_segments.specs.declared.table.TableInit.{TableInit}
use Rattle.wasm_segments.specs.declared.table.TableInit.TheVariants as init
use Rattle.wasm_text.specs.Lines.{shown_name}
use Rattle.wasm_details.specs.declared.constants.Usage.TheVariants as usage
use Rattle.wasm_rows.specs.declared.fault.Fault.{Fault}
use Rattle.wasm_details.specs.declared.place.Place.{Place}
use Rattle.wasm_details.specs.Constants.{Shows, Constants, ListsShown}
use Rattle.wasm_details.specs.Externals.{global_text, table_text}
use Rattle.wasm_details.specs.Items.{Listing, ListsItems, ListsSection}
use Rattle.wasm_details.specs.Places.{after_index, after_one}
use Rattle.wasm_index_names.specs.Known.{ModuleNames}
use Rattle.wasm_index_names.specs.Lists.{name_at}
use Rattle.wasm_details.specs.Writing.{WritesLine, ListsRows}
use Rattle.wasm_rows.specs.Writing.{WritesThen}

-- A value at the start, and the end of the line.
abbrev pub initial_text : List ℕ → List ℕ
initial_text shown = codes " - init " ++ (shown ++ codes "\n")

-- A global: its type, its name and its value at the start.
abbrev pub global_line : ModuleNames → ℕ → GlobalType → List ℕ → List ℕ
global_line names index ty shown = global_text index ty ++ (shown_name (name_at names.globals index) ++ initial_text shown)

abbrev pub ListsGlobal : {X : Type 0} → Shows X → ModuleNames → Listing (Global X)
ListsGlobal shows names place g result old new =
    ListsShown (shows names usage.Value g.init_expr) (λ text number. WritesLine (global_line names place.next g.ty text) (after_one place)) result old new

-- A table: its type and its name.
abbrev pub table_head : ModuleNames → ℕ → TableType → List ℕ
table_head names index ty = table_text index ty ++ shown_name (name_at names.tables index)

-- A table without an initial value.
abbrev pub table_line : ModuleNames → ℕ → TableType → List ℕ
table_line names index ty = table_head names index ty ++ codes "\n"

-- A table with the initial value of its elements.
abbrev pub filled_table_line : ModuleNames → ℕ → TableType → List ℕ → List ℕ
filled_table_line names index ty shown = table_head names index ty ++ initial_text shown

abbrev pub ListsInitial : {X : Type 0} → Shows X → ModuleNames → Place → TableType → TableInit X → Result Place Fault → Option (List ℕ) → Option (List ℕ) → Type 0
ListsInitial shows names place ty init.RefNull result old new = WritesLine (table_line names place.next ty) (after_one place) result old new
ListsInitial shows names place ty (init.Expr value) result old new =
    ListsShown (shows names usage.Value value) (λ text number. WritesLine (filled_table_line names place.next ty text) (after_one place)) result old new

abbrev pub ListsTable : {X : Type 0} → Shows X → ModuleNames → Listing (Table X)
ListsTable shows names place t result old new = ListsInitial shows names place t.ty t.init result old new

-- The offset of an active segment, and its number if it is one. Other segments have none.
abbrev pub IsOffset : {X : Type 0} → Shows X → ModuleNames → Option X → List ℕ → Option ℕ → Type 0
IsOffset shows names None text number = (text ≡ []) × (number ≡ None)
IsOffset shows names (Some offset) text number = (shown : List ℕ) × shows names usage.Offset offset shown number × (text ≡ codes " - init " ++ shown)

-- The address of a segment: its offset, or the address of the segment before it.
abbrev pub address_of : Option ℕ → ℕ → ℕ
address_of (Some number) before = number
address_of None before = before

-- The place after a segment with this offset.
abbrev pub after_segment : Place → Option ℕ → Place
after_segment p number = record { next = after_index p.next; address = address_of number p.address; imported = p.imported }

-- The place of the first element of a segment with this offset.
abbrev pub first_element : Place → Option ℕ → Place
first_element p number = record { next = 0; address = address_of number p.address; imported = p.imported }

abbrev pub element_offset : {X : Type 0} → ElementKind X → Option X
element_offset (kind.Active table offset) = Some offset
element_offset k = None

-- The table's index, 0 if it is not written.
abbrev pub table_or_first : Option ℕ → ℕ
table_or_first (Some index) = index
table_or_first None = 0

abbrev pub table_of : {X : Type 0} → ElementKind X → ℕ
table_of (kind.Active table offset) = table_or_first table
table_of k = 0

-- The lower two bits of the flags: whether the segment is not active, and whether it is declared or
-- has the index of its table.
abbrev pub active_flags : Option ℕ → ℕ
active_flags (Some index) = 2
active_flags None = 0

abbrev pub kind_flags : {X : Type 0} → ElementKind X → ℕ
kind_flags kind.Passive = 1
kind_flags (kind.Active table offset) = active_flags table
kind_flags kind.Declared = 3

-- The third bit of the flags: whether the elements are expressions.
abbrev pub items_flags : {X : Type 0} → ElementItems X → ℕ
items_flags (items.Functions indices) = 0
items_flags (items.Expressions ty values) = 4

-- The number of elements.
abbrev pub count_of : {X : Type 0} → ElementItems X → ℕ
count_of (items.Functions indices) = indices.count
count_of (items.Expressions ty values) = values.count

-- The index of an element segment and its flags.
unfoldable pub flags_text : ℕ → ℕ → List ℕ
flags_text index flags = codes " - segment[" ++ (decimal index ++ (codes "] flags=" ++ decimal flags))

-- The table of an element segment and the number of its elements.
unfoldable pub counts_text : ℕ → ℕ → List ℕ
counts_text table count = codes " table=" ++ (decimal table ++ (codes " count=" ++ decimal count))

-- An element segment: its numbers and its offset.
abbrev pub element_head : {X : Type 0} → ℕ → Element X → List ℕ → List ℕ
element_head index e offset =
    flags_text index (kind_flags e.kind + items_flags e.items) ++ (counts_text (table_of e.kind) (count_of e.items) ++ (offset ++ codes "\n"))

-- The index of an element in its table.
abbrev pub element_index : Place → ℕ
element_index p = (p.address + p.next) % 2 ^ 64

-- What precedes a reference: its index in the table.
abbrev pub entry_begin : Place → List ℕ
entry_begin p = codes "  - elem[" ++ (decimal (element_index p) ++ codes "] = ")

-- An element: its index in the table and the reference.
abbrev pub entry_line : Place → List ℕ → List ℕ
entry_line p shown = entry_begin p ++ (shown ++ codes "\n")

-- An element that is the index of a function.
abbrev pub function_entry : ModuleNames → Place → ℕ → List ℕ
function_entry names p index = entry_begin p ++ (codes "func[" ++ (decimal index ++ (codes "]" ++ (shown_name (name_at names.functions index) ++ codes "\n"))))

abbrev pub ListsFunction : ModuleNames → Listing ℕ
ListsFunction names place index result old new = WritesLine (function_entry names place index) (after_one place) result old new

abbrev pub ListsExpression : {X : Type 0} → Shows X → ModuleNames → Listing X
ListsExpression shows names place x result old new =
    ListsShown (shows names usage.Element x) (λ text number. WritesLine (entry_line place text) (after_one place)) result old new

-- The elements, of which the first is at this place.
abbrev pub ListsReferences : {X : Type 0} → Constants X → ModuleNames → ElementItems X → Place → Result Place Fault → Option (List ℕ) → Option (List ℕ) → Type 0
ListsReferences k names (items.Functions indices) first result old new = ListsItems (λ features. u32) (ListsFunction names) indices first result old new
ListsReferences k names (items.Expressions ty values) first result old new = ListsItems k.grammar (ListsExpression k.shows names) values first result old new

-- The elements of a segment, and the place after the segment.
abbrev pub ListsInside : {X : Type 0} → Constants X → ModuleNames → ElementItems X → Place → Place → Result Place Fault → Option (List ℕ) → Option (List ℕ) → Type 0
ListsInside k names elements first next (Ok p) old new = (p ≡ next) × (end : Place) × ListsReferences k names elements first (Ok end) old new
ListsInside k names elements first next (Err f) old new = ListsReferences k names elements first (Err f) old new

abbrev pub ListsElement : {X : Type 0} → Constants X → ModuleNames → Listing (Element X)
ListsElement k names place e result old new =
    ListsShown (IsOffset k.shows names (element_offset e.kind))
    (λ offset number. WritesThen (element_head place.next e offset) (ListsInside k names e.items (first_element place number) (after_segment place number)))
    result old new

abbrev pub data_offset : {X : Type 0} → DataKind X → Option X
data_offset (data_kind.Active memory offset) = Some offset
data_offset data_kind.Passive = None

-- The memory of an active segment.
abbrev pub memory_of : {X : Type 0} → DataKind X → List ℕ
memory_of (data_kind.Active memory offset) = codes " memory=" ++ decimal memory
memory_of data_kind.Passive = codes " passive"

-- The number of a segment's bytes, and its offset.
abbrev pub size_text : ℕ → List ℕ → List ℕ
size_text size offset = codes " size=" ++ (decimal size ++ (offset ++ codes "\n"))

-- The index of a data segment.
unfoldable pub segment_begin : ℕ → List ℕ
segment_begin index = codes " - segment[" ++ (decimal index ++ codes "]")

-- A data segment: its name, its memory, the number of its bytes and its offset.
abbrev pub data_head : {X : Type 0} → ModuleNames → ℕ → Data X → List ℕ → List ℕ
data_head names index d offset =
    segment_begin index ++ (shown_name (name_at names.segments index) ++ (memory_of d.kind ++ size_text (length d.«data») offset))

abbrev pub ListsSegment : {X : Type 0} → Shows X → ModuleNames → Listing (Data X)
ListsSegment shows names place d result old new =
    ListsShown (IsOffset shows names (data_offset d.kind))
    (λ offset number. WritesThen (data_head names place.next d offset) (ListsRows (codes "  - ") (address_of number place.address) d.«data» (after_segment place number)))
    result old new

-- A section of element segments.
abbrev pub ListsElements : {X : Type 0} → Constants X → ModuleNames → Reader → Place → Result Place Fault → Option (List ℕ) → Option (List ℕ) → Type 0
ListsElements k names contents first result old new =
    ListsSection (λ features. element features (k.grammar features)) (ListsElement k names) (codes "Elem") contents first result old new

-- A section of data segments.
abbrev pub ListsData : {X : Type 0} → Constants X → ModuleNames → Reader → Place → Result Place Fault → Option (List ℕ) → Option (List ℕ) → Type 0
ListsData k names contents first result old new =
    ListsSection (λ features. data_segment (k.grammar features)) (ListsSegment k.shows names) (codes "Data") contents first result old new
