use Rattle.std.specs.Prelude.{◌≡◌, ℕ, ◌≤◌, ◌⊎◌, ℤ, pos, ◌<ℤ◌}
use Rattle.wasm_below.specs.declared.message.Message.{Message}
use Rattle.wasm_below.specs.declared.message.Message.TheVariants as message
use Rattle.wasm_below.specs.Fault.{ThenFault}
use Rattle.wasm_below.specs.Number.{EncodesSigned}
use Rattle.wasm_below.specs.Source.{Reader, rest, offset_of, BeginsWith, S33Fault}
use Rattle.wasm_below.specs.TypeEncoding.{ValTypeFault}

-- A first byte that announces a value type: 0x41 to 0x7f.
abbrev pub LeadsValType : ℕ → Type 0
LeadsValType byte = (0x41 ≤ byte) × (byte ≤ 0x7f)

abbrev pub NegativeFault : ℤ → Message → Reader → ℕ → Type 0
NegativeFault index m r offset = (index <ℤ pos 0) × (m ≡ message.InvalidFunctionType) × (offset ≡ offset_of r)

-- The index is no number of 33 bits, or negative.
abbrev pub FunctionTypeFault : Message → Reader → ℕ → Type 0
FunctionTypeFault = ThenFault (EncodesSigned 33) S33Fault NegativeFault

-- By the first byte, the error of a value type or of the index.
abbrev pub BlockTypeFault : Message → Reader → ℕ → Type 0
BlockTypeFault m r offset = ((byte : ℕ) × LeadsValType byte × BeginsWith byte (rest r) × ValTypeFault m r offset) ⊎ (((byte : ℕ) → LeadsValType byte → BeginsWith byte (rest r) → ⊥) × FunctionTypeFault m r offset)
