-- WebAssembly Core Specification 3.0: Validation, Conventions, Contexts; Modules.
use Rattle.std.specs.Prelude.{ℕ, nat_lt, Bool, false, List, [], Option, Some, None}
use Rattle.std.specs.List.{slice_get}
use Rattle.std.specs.Option.{option_map, option_and_then}
use Rattle.wasm_externals.specs.declared.global_type.GlobalType as external_global
use Rattle.wasm_externals.specs.declared.memory_type.MemoryType.{MemoryType}
use Rattle.wasm_externals.specs.declared.table_type.TableType as external_table
use Rattle.wasm_externals.specs.declared.tag_type.TagType.{TagType}
use Rattle.wasm_types.specs.declared.composites.CompositeInnerType.{CompositeInnerType}
use Rattle.wasm_types.specs.declared.composites.CompositeInnerType.TheVariants as inner
use Rattle.wasm_types.specs.declared.fields.FieldType.{FieldType}
use Rattle.wasm_typing.specs.Types.{FunctionType}
use Rattle.wasm_check_control.specs.Environment.{Environment, Global, Table, stack_of}
use Rattle.wasm_subtypes.specs.Types.{order_of}
use Rattle.wasm_subtypes.specs.declared.defined.Defined.{Defined}
use Rattle.wasm_context.specs.declared.function.Function.{Function}
use Rattle.wasm_context.specs.Components.{Components}

-- The composite type at a type index. Conventions, Types: expansion.
abbrev pub expanded : List Defined → ℕ → Option CompositeInnerType
expanded types x = option_map (λ (d : Defined). d.ty.composite_type.inner) (slice_get types x)

abbrev pub as_function : CompositeInnerType → Option FunctionType
as_function (inner.Func f) = Some (record { takes = stack_of f.params; leaves = stack_of f.results })
as_function _ = None

abbrev pub as_structure : CompositeInnerType → Option (List FieldType)
as_structure (inner.Struct s) = Some s.fields
as_structure _ = None

abbrev pub as_array : CompositeInnerType → Option FieldType
as_array (inner.Array a) = Some a.0
as_array _ = None

-- The function type at a type index.
abbrev pub function_at : List Defined → ℕ → Option FunctionType
function_at types x = option_and_then as_function (expanded types x)

abbrev pub global_of : external_global.GlobalType → Global
global_of g = record { type = g.content_type; mutable = g.mutable }

abbrev pub table_of : external_table.TableType → Table
table_of t = record { element = t.element_type; is_64 = t.table64 }

abbrev pub is_declared : Option Function → Bool
is_declared None = false
is_declared (Some f) = f.declared

-- The context of a module: no locals, and no results.
abbrev pub environment_of : Components → Environment
environment_of c = record {
  order = order_of c.types;
  types = function_at c.types;
  structures = λ x. option_and_then as_structure (expanded c.types x);
  arrays = λ x. option_and_then as_array (expanded c.types x);
  functions = λ x. option_and_then (λ (f : Function). function_at c.types f.type_index) (slice_get c.functions x);
  locals = λ x. None;
  globals = λ x. option_map global_of (slice_get c.globals x);
  tables = λ x. option_map table_of (slice_get c.tables x);
  memories = λ x. option_map (λ (m : MemoryType). m.memory64) (slice_get c.memories x);
  tags = λ x. option_and_then (λ (t : TagType). function_at c.types t.func_type_idx) (slice_get c.tags x);
  elements = slice_get c.elements;
  has_data = λ x. nat_lt x c.data_segments;
  is_declared = λ x. is_declared (slice_get c.functions x);
  type_indices = λ x. option_map (λ (f : Function). f.type_index) (slice_get c.functions x);
  results = [];
}
