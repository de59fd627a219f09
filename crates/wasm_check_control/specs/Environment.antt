-- The part of a context that a function body does not change.
-- WebAssembly Core Specification 3.0: Validation, Conventions, Contexts.
use Rattle.std.specs.Prelude.{ℕ, Bool, List, map, reverse, Option}
use Rattle.wasm_below.specs.Reference.{Reference}
use Rattle.wasm_below.specs.declared.types.ValType.{ValType}
use Rattle.wasm_types.specs.declared.fields.FieldType.{FieldType}
use Rattle.wasm_typing.specs.Types.{Stack, FunctionType, value_type}
use Rattle.wasm_typing.specs.Matching as matching
use Rattle.wasm_check_control.specs.declared.context.CompositeKind.{CompositeKind}
use Rattle.wasm_check_control.specs.declared.context.CompositeKind.TheVariants as kind
use Rattle.wasm_check_control.specs.declared.context.FuncType.{FuncType}
use Rattle.wasm_check_control.specs.declared.context.GlobalType.{GlobalType}
use Rattle.wasm_check_control.specs.declared.context.StructType.{StructType}
use Rattle.wasm_check_control.specs.declared.context.LocalType.{LocalType}
use Rattle.wasm_check_control.specs.declared.context.TableType.{TableType}

pub record Global : Type 0 where
  pub type : ValType
  pub mutable : Bool

pub record Table : Type 0 where
  pub element : Reference
  pub is_64 : Bool

-- By index: function types, fields of structure types, elements of array types, functions, locals,
-- globals, tables, whether the addresses of a memory are i64, tags, the types of element segments, data
-- segments, functions that are declared as references, and the type indices of functions. And the
-- results of the function.
pub record Environment : Type 0 where
  pub order : matching.TypeOrder
  pub types : ℕ → Option FunctionType
  pub structures : ℕ → Option (List FieldType)
  pub arrays : ℕ → Option FieldType
  pub functions : ℕ → Option FunctionType
  pub locals : ℕ → Option LocalType
  pub globals : ℕ → Option Global
  pub tables : ℕ → Option Table
  pub memories : ℕ → Option Bool
  pub tags : ℕ → Option FunctionType
  pub elements : ℕ → Option Reference
  pub has_data : ℕ → Bool
  pub is_declared : ℕ → Bool
  pub type_indices : ℕ → Option ℕ
  pub results : Stack

-- The operands of these types, of which the last is on top of the stack.
abbrev pub stack_of : List ValType → Stack
stack_of types = reverse (map value_type types)

-- The kind of a composite type.
abbrev pub composite_kind : CompositeKind → matching.CompositeKind
composite_kind kind.Func = matching.of_function
composite_kind kind.Struct = matching.of_struct
composite_kind kind.Array = matching.of_array

-- The instruction type of a function type.
abbrev pub type_of : FuncType → FunctionType
type_of f = record { takes = stack_of f.params.now; leaves = stack_of f.results.now }

-- The global of a global type.
abbrev pub global_of : GlobalType → Global
global_of g = record { type = g.content_type; mutable = g.mutable }

-- The fields of a structure type.
abbrev pub fields_of : StructType → List FieldType
fields_of s = s.fields.now

-- The table of a table type.
abbrev pub table_of : TableType → Table
table_of t = record { element = t.element_type; is_64 = t.table64 }
