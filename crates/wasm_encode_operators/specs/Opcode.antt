-- The opcode of an operator in the type of the encoder.
use Rattle.std.specs.Prelude.{◌≡◌, ℕ, Option, Some, None}
use Rattle.wasm_encode_operators.specs.declared.opcode.Opcode.{Opcode}
use Rattle.wasm_encode_operators.specs.declared.opcode.Opcode.TheVariants as opcode

-- The prefix byte (if any) and the code of an operator.
abbrev pub IsOpcode : Option ℕ → ℕ → Opcode → Type 0
IsOpcode prefix code (opcode.Byte byte) = (prefix ≡ None) × (code ≡ byte)
IsOpcode prefix code (opcode.Prefixed byte number) = (prefix ≡ Some byte) × (code ≡ number)
