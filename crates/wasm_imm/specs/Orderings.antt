-- Proposals threads, shared-everything threads and acquire-release atomics.
use Rattle.std.specs.Prelude.{◌≡◌, ℕ, ◌⊎◌, List, [], ◌∷◌, ◌≢◌, false}
use Rattle.wasm_below.specs.declared.features.WasmFeatures.{WasmFeatures}
use Rattle.wasm_below.specs.Features.{HasFeature, acquire_release_atomics}
use Rattle.wasm_below.specs.Source.{Reader, offset_of}
use Rattle.wasm_imm.specs.declared.ordering.Ordering.{Ordering}
use Rattle.wasm_imm.specs.declared.ordering.Ordering.TheVariants.{SeqCst}
use Rattle.wasm_imm.specs.MemoryArgument.{ordering_byte}
use Rattle.wasm_below.specs.declared.message.Message.{Message}
use Rattle.wasm_below.specs.declared.message.Message.TheVariants as message
use Rattle.wasm_below.specs.PartFaults.{CheckedByteFault, ZeroFault}

-- The byte of an ordering. Proposal shared-everything threads.
abbrev pub EncodesOrderingByte : List ℕ → Ordering → Type 0
EncodesOrderingByte text o = text ≡ ordering_byte o ∷ []

-- The byte of `atomic.fence`: an ordering with acquire_release_atomics, 0 without. Proposals
-- threads and acquire-release atomics.
abbrev pub EncodesFence : WasmFeatures → List ℕ → Ordering → Type 0
EncodesFence f text o = (HasFeature acquire_release_atomics f × EncodesOrderingByte text o) ⊎ (¬ HasFeature acquire_release_atomics f × (text ≡ 0x00 ∷ []) × (o ≡ SeqCst))

-- The data ends, or the byte is not an ordering.
abbrev pub OrderingByteFault : Message → Reader → ℕ → Type 0
OrderingByteFault m r offset = CheckedByteFault (λ byte. (o : Ordering) → byte ≢ ordering_byte o) (λ byte. message.InvalidOrdering byte false) (offset_of r) m r offset

-- With acquire_release_atomics, `OrderingByteFault`. Without, the data ends, or a nonzero byte is
-- reported at `start`.
abbrev pub FenceFault : WasmFeatures → ℕ → Message → Reader → ℕ → Type 0
FenceFault f start m r offset = (HasFeature acquire_release_atomics f × OrderingByteFault m r offset) ⊎ (¬ HasFeature acquire_release_atomics f × ZeroFault message.NonzeroAfterFence start m r offset)
