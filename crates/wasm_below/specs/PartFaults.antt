use Rattle.std.specs.Prelude.{◌≡◌, ℕ, ◌≢◌, ◌⊎◌}
use Rattle.wasm_below.specs.declared.message.Message.{Message}
use Rattle.wasm_below.specs.Source.{Reader, rest, BeginsWith, EndFault}

-- `IsWrong` holds of the next byte. The error is `refusal byte`, at the offset `place`.
abbrev pub WrongByteFault : (ℕ → Type 0) → (ℕ → Message) → ℕ → Message → Reader → ℕ → Type 0
WrongByteFault IsWrong refusal place m r offset = (byte : ℕ) × BeginsWith byte (rest r) × IsWrong byte × (m ≡ refusal byte) × (offset ≡ place)

abbrev pub CheckedByteFault : (ℕ → Type 0) → (ℕ → Message) → ℕ → Message → Reader → ℕ → Type 0
CheckedByteFault IsWrong refusal place m r offset = EndFault m r offset ⊎ WrongByteFault IsWrong refusal place m r offset

abbrev pub ZeroFault : Message → ℕ → Message → Reader → ℕ → Type 0
ZeroFault refusal place m r offset = CheckedByteFault (λ byte. byte ≢ 0) (λ byte. refusal) place m r offset
