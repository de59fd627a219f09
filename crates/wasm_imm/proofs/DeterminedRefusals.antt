use Rattle.std.proofs.Common.{◌≢◌, ℕ, false}
use Rattle.wasm_below.specs.declared.features.WasmFeatures.{WasmFeatures}
use Rattle.wasm_below.specs.declared.message.Message.TheVariants as message
use Rattle.wasm_below.specs.Fault.{DeterminesRefusal}
use Rattle.wasm_below.specs.Features.{HasFeature, acquire_release_atomics}
use Rattle.wasm_below.specs.Source.{offset_of, U32Fault}
use Rattle.wasm_below.proofs.DeterminedRefusals.{u32_determines, either_determines, checked_determines, zero_determines}
use Rattle.wasm_imm.specs.declared.ordering.Ordering.{Ordering}
use Rattle.wasm_imm.specs.MemoryArgument.{ordering_byte}
use Rattle.wasm_below.specs.PartFaults.{ZeroFault}
use Rattle.wasm_imm.specs.Indices.{IndexFault}
use Rattle.wasm_imm.specs.Orderings.{OrderingByteFault, FenceFault}

pub index_determines : (feature f : WasmFeatures) → DeterminesRefusal (IndexFault feature f)
index_determines feature f m k r a b = either_determines (HasFeature feature f) U32Fault (ZeroFault message.ZeroByteExpected (offset_of r)) u32_determines
    (zero_determines message.ZeroByteExpected (offset_of r)) m k r a b

pub ordering_byte_determines : DeterminesRefusal OrderingByteFault
ordering_byte_determines m k r a b = checked_determines (λ byte. (o : Ordering) →
    byte ≢ ordering_byte o) (λ byte. message.InvalidOrdering byte false) (offset_of r) m k r a b

pub fence_determines : (f : WasmFeatures) (start : ℕ) → DeterminesRefusal (FenceFault f start)
fence_determines f start = either_determines (HasFeature acquire_release_atomics f) OrderingByteFault (ZeroFault message.NonzeroAfterFence start)
    ordering_byte_determines (zero_determines message.NonzeroAfterFence start)
