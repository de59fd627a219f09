-- Value types with the types that only validation knows, and instruction types.
-- WebAssembly Core Specification 3.0: Validation, Conventions, Types and Instruction Types.
use Rattle.std.specs.Prelude.{Bool, true, false, List}
use Rattle.wasm_below.specs.declared.types.ValType.{ValType}
use Rattle.wasm_below.specs.declared.types.ValType.TheVariants as value
use Rattle.wasm_typing.specs.declared.value_type.ValueType.{ValueType}
use Rattle.wasm_typing.specs.declared.value_type.ValueType.TheVariants.{I32, I64, F32, F64, V128, Ref}
use Rattle.wasm_typing.specs.declared.value_type.Heap.TheVariants.{Known}

-- The value type that a module contains.
abbrev pub value_type : ValType → ValueType
value_type value.I32 = I32
value_type value.I64 = I64
value_type value.F32 = F32
value_type value.F64 = F64
value_type value.V128 = V128
value_type (value.Ref r) = Ref r.nullable (Known r.heap_type)

-- A number type, a vector type or bot.
abbrev pub is_number : ValueType → Bool
is_number (Ref nullable h) = false
is_number _ = true

-- The types of operands. The first is the top of the stack.
abbrev pub Stack : Type 0
Stack = List ValueType

-- What an instruction takes from the stack and what it leaves in its place.
pub record FunctionType : Type 0 where
  pub takes : Stack
  pub leaves : Stack
