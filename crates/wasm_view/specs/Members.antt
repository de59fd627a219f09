-- Specification: Binary Format, Control and Parametric Instructions; proposal stack switching.
use Rattle.std.specs.Prelude.{ℕ}
use Rattle.wasm_below.specs.declared.types.ValType.{ValType}
use Rattle.wasm_imm.specs.declared.handlers.Catch.{Catch}
use Rattle.wasm_imm.specs.declared.handlers.Catch.TheVariants as clause
use Rattle.wasm_imm.specs.declared.handlers.Handle.{Handle}
use Rattle.wasm_imm.specs.declared.handlers.Handle.TheVariants as handle
use Rattle.wasm_imm.specs.Handlers.{catch_byte, handle_byte}
use Rattle.wasm_view.specs.Numbers.{value_kind, value_index}
use Rattle.wasm_view.specs.declared.members.WasmType.{WasmType}
use Rattle.wasm_view.specs.declared.members.WasmHandler.{WasmHandler}

-- The kind and the index of a type.
abbrev pub type_of : ValType → WasmType
type_of ty = record { kind = value_kind ty; index = value_index ty }

abbrev pub handler : ℕ → ℕ → ℕ → WasmHandler
handler kind tag label = record { kind = kind; tag = tag; label = label }

-- A clause of a `try_table`.
abbrev pub catch_of : Catch → WasmHandler
catch_of (clause.One tag label) = handler (catch_byte (clause.One tag label)) tag label
catch_of (clause.OneRef tag label) = handler (catch_byte (clause.OneRef tag label)) tag label
catch_of (clause.All label) = handler (catch_byte (clause.All label)) 0 label
catch_of (clause.AllRef label) = handler (catch_byte (clause.AllRef label)) 0 label

-- A clause of a resume table.
abbrev pub handle_of : Handle → WasmHandler
handle_of (handle.OnLabel tag label) = handler (handle_byte (handle.OnLabel tag label)) tag label
handle_of (handle.OnSwitch tag) = handler (handle_byte (handle.OnSwitch tag)) tag 0
