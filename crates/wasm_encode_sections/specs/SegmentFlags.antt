-- The numbers at the start of segments. Specification: Binary Format, Element Section, Data Section.
use Rattle.std.specs.Prelude.{ℕ, ◌==◌, Bool, true, false, Option, Some, None, is_some}
use Rattle.wasm_below.specs.declared.types.AbstractHeapType.TheVariants as abstract
use Rattle.wasm_below.specs.declared.types.HeapType.{HeapType}
use Rattle.wasm_below.specs.declared.types.HeapType.TheVariants as heap
use Rattle.wasm_below.specs.Reference.{Reference}
use Rattle.wasm_segments.specs.declared.data.DataKind.{DataKind}
use Rattle.wasm_segments.specs.declared.data.DataKind.TheVariants as kind
use Rattle.wasm_segments.specs.declared.element.ElementKind.{ElementKind}
use Rattle.wasm_segments.specs.declared.element.ElementKind.TheVariants as element
use Rattle.wasm_encode_sections.specs.declared.elements.ListedElement.{ListedElement}
use Rattle.wasm_encode_sections.specs.declared.elements.ListedItems.{ListedItems}
use Rattle.wasm_encode_sections.specs.declared.elements.ListedItems.TheVariants as list
use Rattle.wasm_encode_sections.specs.Flags.{flag_byte}

-- The number of an active data segment: the index of memory 0 is not written.
abbrev pub active_flags : Bool → ℕ
active_flags true = 0
active_flags false = 2

abbrev pub data_flags : {C : Type 0} → DataKind C → ℕ
data_flags kind.Passive = 1
data_flags (kind.Active index offset) = active_flags (index == 0)

-- The segment is passive or declarative.
abbrev pub is_inactive : {C : Type 0} → ElementKind C → Bool
is_inactive (element.Active index offset) = false
is_inactive _ = true

-- The segment is declarative, or active with a table's index.
abbrev pub has_second : {C : Type 0} → ElementKind C → Bool
has_second element.Passive = false
has_second element.Declared = true
has_second (element.Active index offset) = is_some index

abbrev pub is_expressions : {C : Type 0} → ListedItems C → Bool
is_expressions (list.Functions indices) = false
is_expressions (list.Expressions ty values) = true

-- The number of an element segment.
abbrev pub element_flags : {C : Type 0} → ListedElement C → ℕ
element_flags e = flag_byte (is_inactive e.kind) (has_second e.kind) (is_expressions e.items) false

abbrev pub is_func : HeapType → Bool → Bool
is_func (heap.Abstract false abstract.Func) nullable = nullable
is_func _ nullable = false

-- The type is the one that is not written without a table's index.
abbrev pub is_funcref : Reference → Bool
is_funcref r = is_func r.heap_type r.nullable
