-- The first failed check gives the error. Specification: Binary Format, Memory Instructions.
use Rattle.std.specs.Prelude.{◌≡◌, ℕ, ◌⊎◌, true}
use Rattle.wasm_below.specs.declared.features.WasmFeatures.{WasmFeatures}
use Rattle.wasm_below.specs.declared.message.Message.{Message}
use Rattle.wasm_below.specs.declared.message.Message.TheVariants as message
use Rattle.wasm_below.specs.Fault.{ThenFault}
use Rattle.wasm_below.specs.Features.{HasFeature, multi_memory, memory64, acquire_release_atomics, multibyte_array_access}
use Rattle.wasm_below.specs.Number.{EncodesUnsigned}
use Rattle.wasm_below.specs.Source.{Reader, offset_of, U32Fault, U64Fault}
use Rattle.wasm_imm.specs.declared.memory_argument.MemArgOrdering.{MemArgOrdering}
use Rattle.wasm_imm.specs.declared.memory_argument.MemArgKind.{MemArgKind}
use Rattle.wasm_imm.specs.MemoryArgument.{IsOrderingByte}
use Rattle.wasm_imm.specs.FlagsNumber.{Announces, NamesBoth, OrdersPlain, IsReserved, IsTarget, IsOrdering}
use Rattle.wasm_below.specs.PartFaults.{CheckedByteFault}

-- `refusal` at `place` if `IsWrong` holds, otherwise an error of what is read later.
abbrev pub CheckFault : Type 0 → Message → ℕ → (Message → Reader → ℕ → Type 0) → Message → Reader → ℕ → Type 0
CheckFault IsWrong refusal place Later m r offset = (IsWrong × (m ≡ refusal) × (offset ≡ place)) ⊎ (¬ IsWrong × Later m r offset)

abbrev pub AnnouncesIndex : WasmFeatures → ℕ → Type 0
AnnouncesIndex f flags = Announces f multi_memory flags 64 ⊎ Announces f multibyte_array_access flags 32

abbrev pub TargetFault : WasmFeatures → ℕ → Message → Reader → ℕ → Type 0
TargetFault f flags m r offset = AnnouncesIndex f flags × U32Fault m r offset

abbrev pub IsNoOrdering : MemArgKind → ℕ → Type 0
IsNoOrdering k byte = (o : MemArgOrdering) → ¬ IsOrderingByte k byte o

-- The data ends at the announced ordering, or the byte is not an ordering.
abbrev pub OrderingFault : WasmFeatures → MemArgKind → ℕ → Message → Reader → ℕ → Type 0
OrderingFault f k flags m r offset = Announces f acquire_release_atomics flags 16 × CheckedByteFault (IsNoOrdering k) (λ byte. message.InvalidOrdering byte true) (offset_of r) m r offset

abbrev pub OffsetFault : WasmFeatures → Message → Reader → ℕ → Type 0
OffsetFault f m r offset = (HasFeature memory64 f × U64Fault m r offset) ⊎ (¬ HasFeature memory64 f × U32Fault m r offset)

-- `ReservedFlags` if a bit of the flags number has no meaning, otherwise the error of the offset.
abbrev pub FaultAfterOrdering : WasmFeatures → ℕ → ℕ → Message → Reader → ℕ → Type 0
FaultAfterOrdering f flags start = CheckFault (IsReserved f flags) message.ReservedFlags start (OffsetFault f)

-- `OrderingOnPlain` if a `Plain` argument announces an ordering, otherwise the error of the
-- ordering or of what follows.
abbrev pub FaultAfterTarget : WasmFeatures → MemArgKind → ℕ → ℕ → Message → Reader → ℕ → Type 0
FaultAfterTarget f k flags start = CheckFault (OrdersPlain f k flags) message.OrderingOnPlain start (ThenFault (IsOrdering f k flags) (OrderingFault f k flags) (λ o. FaultAfterOrdering f flags start))

-- `MemoryAndArray` at `start` if `NamesBoth` holds, otherwise the error of the index or of what
-- follows.
abbrev pub FlagsFault : WasmFeatures → MemArgKind → ℕ → ℕ → Message → Reader → ℕ → Type 0
FlagsFault f k flags start = CheckFault (NamesBoth f flags) message.MemoryAndArray start (ThenFault (IsTarget f flags) (TargetFault f flags) (λ t. FaultAfterTarget f k flags start))

-- The error of the flags number, or of what follows.
abbrev pub MemArgFault : WasmFeatures → MemArgKind → Message → Reader → ℕ → Type 0
MemArgFault f k m r offset = ThenFault (EncodesUnsigned 32) U32Fault (λ flags. FlagsFault f k flags (offset_of r)) m r offset
