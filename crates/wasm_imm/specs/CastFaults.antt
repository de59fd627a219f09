use Rattle.std.specs.Prelude.{◌≡◌, ℕ, ◌≤◌, ◌<◌, ◌⊎◌}
use Rattle.wasm_below.specs.declared.message.Message.{Message}
use Rattle.wasm_below.specs.declared.message.Message.TheVariants as message
use Rattle.wasm_below.specs.Fault.{ThenFault}
use Rattle.wasm_below.specs.Number.{EncodesUnsigned}
use Rattle.wasm_below.specs.Source.{Reader, offset_of, IsByte, U32Fault, EndFault}
use Rattle.wasm_below.specs.TypeEncoding.{EncodesHeapType, HeapTypeFault}

-- The flags, at the offset `start`, are above 3, or a heap type is in error.
abbrev pub CastTypesFault : ℕ → ℕ → Message → Reader → ℕ → Type 0
CastTypesFault start flags m r offset = ((3 < flags) × (m ≡ message.InvalidCastFlags flags) × (offset ≡ start)) ⊎ ((flags ≤ 3) × ThenFault EncodesHeapType HeapTypeFault (λ first. HeapTypeFault) m r offset)

-- The error of the flags, the label or the types.
abbrev pub CastFault : Message → Reader → ℕ → Type 0
CastFault m r offset = ThenFault IsByte EndFault (λ flags. ThenFault (EncodesUnsigned 32) U32Fault (λ label. CastTypesFault (offset_of r) flags)) m r offset
