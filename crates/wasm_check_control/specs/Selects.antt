-- The type of a select. WebAssembly Core Specification 3.0: Appendix, Validation Algorithm.
use Rattle.std.specs.Prelude.{ℕ, Bool, true, false, if◌then◌else◌, Option, Some, None}
use Rattle.wasm_typing.specs.declared.value_type.ValueType.{ValueType}
use Rattle.wasm_typing.specs.declared.value_type.ValueType.TheVariants.{I32, I64, F32, F64, V128, Bottom, Ref}
use Rattle.wasm_typing.specs.Checking.{if_number}

abbrev pub same_number : ValueType → ValueType → Bool
same_number I32 I32 = true
same_number I64 I64 = true
same_number F32 F32 = true
same_number F64 F64 = true
same_number V128 V128 = true
same_number _ _ = false

-- The form of a type as a number, below 5 for number types and v128.
abbrev pub form : ValueType → ℕ
form I32 = 0
form I64 = 1
form F32 = 2
form F64 = 3
form V128 = 4
form Bottom = 5
form (Ref nullable heap) = 6

abbrev pub is_bottom : ValueType → Bool
is_bottom Bottom = true
is_bottom _ = false

-- The type of a select without a type between operands of these types: the same number or vector
-- type, or the other type if one is bot.
abbrev pub select_type : ValueType → ValueType → Option ValueType
select_type x y =
    if is_bottom x then if_number y else (if is_bottom y then if_number x else (if same_number x y then Some x else None))
