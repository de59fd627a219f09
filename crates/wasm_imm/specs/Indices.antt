-- Specification: Binary Format, Memory and Table Instructions.
use Rattle.std.specs.Prelude.{◌≡◌, ℕ, ◌⊎◌, List, [], ◌∷◌}
use Rattle.wasm_below.specs.declared.features.WasmFeatures.{WasmFeatures}
use Rattle.wasm_below.specs.Features.{HasFeature, multi_memory, call_indirect_overlong}
use Rattle.wasm_below.specs.Number.{EncodesUnsigned}
use Rattle.wasm_below.specs.Source.{Reader, offset_of, U32Fault}
use Rattle.wasm_below.specs.declared.message.Message.{Message}
use Rattle.wasm_below.specs.declared.message.Message.TheVariants as message
use Rattle.wasm_below.specs.PartFaults.{ZeroFault}

-- An index: a u32 if `feature` is in `f`, otherwise the byte 0.
abbrev pub EncodesIndex : WasmFeatures → WasmFeatures → List ℕ → ℕ → Type 0
EncodesIndex feature f text n = (HasFeature feature f × EncodesUnsigned 32 text n) ⊎ (¬ HasFeature feature f × (text ≡ 0x00 ∷ []) × (n ≡ 0))

-- The memory index of `memory.size` and `memory.grow`: a u32 with multi_memory, the byte 0 without.
-- Proposal multi-memory.
abbrev pub EncodesMemoryIndex : WasmFeatures → List ℕ → ℕ → Type 0
EncodesMemoryIndex = EncodesIndex multi_memory

-- The table index of `call_indirect`: a u32 with call_indirect_overlong, the byte 0 without.
abbrev pub EncodesTableIndex : WasmFeatures → List ℕ → ℕ → Type 0
EncodesTableIndex = EncodesIndex call_indirect_overlong

-- The error of an index: of the u32 if `feature` is in `f`; otherwise the data ends, or the byte is
-- not 0.
abbrev pub IndexFault : WasmFeatures → WasmFeatures → Message → Reader → ℕ → Type 0
IndexFault feature f m r offset = (HasFeature feature f × U32Fault m r offset) ⊎ (¬ HasFeature feature f × ZeroFault message.ZeroByteExpected (offset_of r) m r offset)

abbrev pub MemoryIndexFault : WasmFeatures → Message → Reader → ℕ → Type 0
MemoryIndexFault = IndexFault multi_memory

abbrev pub TableIndexFault : WasmFeatures → Message → Reader → ℕ → Type 0
TableIndexFault = IndexFault call_indirect_overlong
