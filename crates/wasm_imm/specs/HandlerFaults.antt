use Rattle.std.specs.Prelude.{◌≡◌, ℕ, ◌≤◌, ◌<◌, ◌⊎◌, List}
use Rattle.wasm_below.specs.declared.message.Message.{Message}
use Rattle.wasm_below.specs.declared.message.Message.TheVariants as message
use Rattle.wasm_below.specs.declared.message.LeadingByteName.{LeadingByteName}
use Rattle.wasm_below.specs.declared.message.LeadingByteName.TheVariants as leading_name
use Rattle.wasm_below.specs.Fault.{ThenFault}
use Rattle.wasm_below.specs.Number.{EncodesUnsigned}
use Rattle.wasm_below.specs.Source.{Reader, rest, offset_of, BeginsWith, IsByte, U32Fault, EndFault}

abbrev pub IsLeading : ℕ → List ℕ → ℕ → Type 0
IsLeading highest text byte = IsByte text byte × (byte ≤ highest)

-- The data ends, or the leading byte is above `highest`; the message then has the byte and the
-- name.
abbrev pub LeadingFault : LeadingByteName → ℕ → Message → Reader → ℕ → Type 0
LeadingFault name highest m r offset = EndFault m r offset ⊎ ((byte : ℕ) × BeginsWith byte (rest r) × (highest < byte) × (m ≡ message.InvalidLeadingByte byte name) × (offset ≡ offset_of r))

abbrev pub PairFault : Message → Reader → ℕ → Type 0
PairFault = ThenFault (EncodesUnsigned 32) U32Fault (λ tag. U32Fault)

-- The error after a leading byte: of a tag and a label if the byte is at most `last`, otherwise of
-- one index.
abbrev pub IndicesFault : ℕ → ℕ → Message → Reader → ℕ → Type 0
IndicesFault last byte m r offset = ((byte ≤ last) × PairFault m r offset) ⊎ ((last < byte) × U32Fault m r offset)

-- The error of the first byte or an index.
abbrev pub CatchFault : Message → Reader → ℕ → Type 0
CatchFault = ThenFault (IsLeading 3) (LeadingFault leading_name.Catch 3) (IndicesFault 1)

abbrev pub HandleFault : Message → Reader → ℕ → Type 0
HandleFault = ThenFault (IsLeading 1) (LeadingFault leading_name.OnClause 1) (IndicesFault 0)
