-- The C struct of a value type, written.
-- Specification: Binary Format, Value Types.
use Rattle.std.specs.Prelude.{◌≡◌, ◌≤◌, ℕ, List, [], length, Bool, true, false, Option, Some, None}
use Rattle.wasm_below.specs.declared.types.ValType.{ValType}
use Rattle.wasm_below.specs.TypeEncoding.{EncodesValType}
use Rattle.wasm_encode_numbers.specs.Appended.{Appends, HasNone}
use Rattle.wasm_view.specs.Members.{type_of}
use Rattle.wasm_view.specs.declared.members.WasmType.{WasmType}
use Rattle.wasm_encode_view.specs.Buffer.{Written}

-- The bytes encode a value type with this C struct.
abbrev pub EncodesType : List ℕ → WasmType → Type 0
EncodesType text v = (ty : ValType) × (v ≡ type_of ty) × EncodesValType text ty

-- At most 12 bytes are the shortest encoding. Without one, the result is `None`.
abbrev pub WritesType : WasmType → Option Written → Type 0
WritesType v (Some out) = Appends EncodesType v [] out.items × (length out.items ≤ 12)
WritesType v None = HasNone EncodesType v

-- The bytes are the shortest encoding of a value type with the C struct, or no bytes encode one.
abbrev pub ReadsType : WasmType → Bool → List ℕ → Type 0
ReadsType v true bytes = Appends EncodesType v [] bytes
ReadsType v false bytes = HasNone EncodesType v
