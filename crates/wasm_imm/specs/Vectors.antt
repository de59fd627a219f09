-- Specification: Binary Format, Vector Instructions.
use Rattle.std.specs.Prelude.{◌≡◌, ℕ, List, length, ◌+◌, ◌<◌}
use Rattle.wasm_below.specs.Source.{Reader, end_of, offset_of}
use Rattle.wasm_imm.specs.declared.constants.V128.{V128}
use Rattle.wasm_below.specs.declared.message.Message.{Message}
use Rattle.wasm_below.specs.declared.message.Message.TheVariants as message

-- The sixteen lanes of a shuffle, in order.
abbrev pub EncodesSixteen : List ℕ → List ℕ → Type 0
EncodesSixteen text bytes = (text ≡ bytes) × (length bytes ≡ 16)

-- A vector's sixteen bytes, the lowest first.
abbrev pub EncodesVector : List ℕ → V128 → Type 0
EncodesVector text v = EncodesSixteen text v.0

-- `EndOfData` at the end: fewer than sixteen bytes are left.
abbrev pub LanesFault : Message → Reader → ℕ → Type 0
LanesFault m r offset = (m ≡ message.EndOfData) × (offset ≡ end_of r) × (end_of r < offset_of r + 16)
