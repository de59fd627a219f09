use Rattle.std.specs.Prelude.{ℕ, nat_eq, nat_lt, Bool, false, List, [], Option, Some, None}
use Rattle.std.specs.List.{slice_get}
use Rattle.std.specs.Option.{option_map, option_and_then}
use Rattle.wasm_below.specs.Reference.{Reference}
use Rattle.wasm_below.specs.declared.types.ValType.{ValType}
use Rattle.wasm_below.specs.declared.types.ValType.TheVariants as value
use Rattle.wasm_typing.specs.Types.{FunctionType}
use Rattle.wasm_typing.specs.Matching.{TypeOrder, CompositeKind, of_function, of_struct, of_array}
use Rattle.wasm_check_control.specs.Environment.{Environment, Table, stack_of, global_of}
use Rattle.wasm_types.specs.declared.fields.FieldType.{FieldType}
use Rattle.wasm_tests_check.specs.declared.row.OwnType.{OwnType}
use Rattle.wasm_tests_check.specs.declared.row.OwnType.TheVariants as own
use Rattle.wasm_tests_check.specs.declared.row.OwnTable.{OwnTable}
use Rattle.wasm_tests_check.specs.declared.row.Row.{Row}

abbrev pub function_of : OwnType → Option FunctionType
function_of (own.Func params results) = Some (record { takes = stack_of params.items; leaves = stack_of results.items })
function_of _ = None

abbrev pub structure_of : OwnType → Option (List FieldType)
structure_of (own.Struct fields) = Some fields.items
structure_of _ = None

abbrev pub array_of : OwnType → Option FieldType
array_of (own.Array elements) = Some elements
array_of _ = None

abbrev pub kind_of : OwnType → CompositeKind
kind_of (own.Func params results) = of_function
kind_of (own.Struct fields) = of_struct
kind_of (own.Array elements) = of_array

-- Each type matches itself alone.
abbrev pub order_of : Row → TypeOrder
order_of row = record { subtype = nat_eq; kind = λ i. option_map kind_of (slice_get row.types.items i) }

abbrev pub type_at : Row → ℕ → Option FunctionType
type_at row i = option_and_then function_of (slice_get row.types.items i)

abbrev pub or_false : Option Bool → Bool
or_false None = false
or_false (Some b) = b

abbrev pub reference_of : ValType → Option Reference
reference_of (value.Ref r) = Some r
reference_of _ = None

abbrev pub table_of : OwnTable → Option Table
table_of t = option_map (λ (r : Reference). record { element = r; is_64 = t.table64 }) (reference_of t.element)

-- What the row says.
abbrev pub environment : Row → Environment
environment row = record {
  order = order_of row;
  types = type_at row;
  structures = λ i. option_and_then structure_of (slice_get row.types.items i);
  arrays = λ i. option_and_then array_of (slice_get row.types.items i);
  functions = λ i. option_and_then (type_at row) (slice_get row.functions.items i);
  locals = λ i. None;
  globals = λ i. option_map global_of (slice_get row.globals.items i);
  tables = λ i. option_and_then table_of (slice_get row.tables.items i);
  memories = slice_get row.memories.items;
  tags = λ i. option_and_then (type_at row) (slice_get row.tags.items i);
  elements = λ i. option_and_then reference_of (slice_get row.elements.items i);
  has_data = λ i. nat_lt i row.data_segments;
  is_declared = λ i. or_false (slice_get row.declared.items i);
  type_indices = slice_get row.functions.items;
  results = [];
}
