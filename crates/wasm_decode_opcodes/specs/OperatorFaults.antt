-- The error of an operator: first the checks in their order, then the immediates from left to right.
-- Specification: Binary Format, Instructions; proposal legacy exception handling.
use Rattle.std.specs.Prelude.{◌≡◌, ℕ, ◌⊎◌, List, [], ◌∷◌, Option, Some, None}
use Rattle.wasm_below.specs.declared.features.WasmFeatures.{WasmFeatures}
use Rattle.wasm_below.specs.declared.message.Message.{Message}
use Rattle.wasm_below.specs.declared.message.Message.TheVariants as message
use Rattle.wasm_below.specs.Fault.{ThenFault}
use Rattle.wasm_below.specs.Features.{HasFeature, legacy_exceptions}
use Rattle.wasm_below.specs.Number.{EncodesUnsigned}
use Rattle.wasm_below.specs.Source.{Reader, rest, offset_of, BeginsWith, IsByte, U32Fault, I32Fault, I64Fault, EndFault, EndsWithin}
use Rattle.wasm_below.specs.TypeEncoding.{HeapTypeFault}
use Rattle.wasm_grammar.specs.declared.frame_kind.FrameKind.{FrameKind}
use Rattle.wasm_grammar.specs.Frames.{Allows}
use Rattle.wasm_imm.specs.BlockTypeFaults.{BlockTypeFault}
use Rattle.wasm_imm.specs.BranchTableFaults.{BranchTableFault}
use Rattle.wasm_imm.specs.CastFaults.{CastFault}
use Rattle.wasm_imm.specs.Indices.{MemoryIndexFault, TableIndexFault}
use Rattle.wasm_imm.specs.ListFaults.{SelectFault, TryTableFault, ResumeTableFault}
use Rattle.wasm_imm.specs.MemoryArgumentFaults.{CheckFault, MemArgFault}
use Rattle.wasm_imm.specs.Orderings.{OrderingByteFault, FenceFault}
use Rattle.wasm_imm.specs.Vectors.{LanesFault}
use Rattle.wasm_imm.specs.Immediate.{Kind, is_unsigned_32, is_signed_32, is_signed_64, is_float_32, is_float_64, is_vector, is_one_lane, is_sixteen_lanes, is_memory_argument, is_memory_index, is_table_index, is_order, is_fence_order, is_heap_type, is_cast, is_block_type, is_branch_table, is_select_types, is_try_clauses, is_resume_clauses}
use Rattle.wasm_decode_opcodes.specs.declared.guard.Guard.{Guard}
use Rattle.wasm_decode_opcodes.specs.Entry.{Entry, unknown, prefixes, free, guarded, guarded_role, guarded_instruction, needed_frame, NeedsLegacy}
use Rattle.wasm_decode_opcodes.specs.Entries.{entry_at}
use Rattle.wasm_decode_opcodes.specs.Kinds.{EncodesKind}

-- The error of an immediate of this kind, of an operator that began at `start`.
abbrev pub KindFault : WasmFeatures → ℕ → Kind → Message → Reader → ℕ → Type 0
KindFault f start is_unsigned_32 = U32Fault
KindFault f start is_signed_32 = I32Fault
KindFault f start is_signed_64 = I64Fault
KindFault f start is_float_32 = EndsWithin 4
KindFault f start is_float_64 = EndsWithin 8
KindFault f start is_vector = EndsWithin 16
KindFault f start is_one_lane = EndFault
KindFault f start is_sixteen_lanes = LanesFault
KindFault f start (is_memory_argument kind max) = MemArgFault f kind
KindFault f start is_memory_index = MemoryIndexFault f
KindFault f start is_table_index = TableIndexFault f
KindFault f start is_order = OrderingByteFault
KindFault f start is_fence_order = FenceFault f start
KindFault f start is_heap_type = HeapTypeFault
KindFault f start is_cast = CastFault
KindFault f start is_block_type = BlockTypeFault
KindFault f start is_branch_table = BranchTableFault
KindFault f start is_select_types = SelectFault
KindFault f start is_try_clauses = TryTableFault
KindFault f start is_resume_clauses = ResumeTableFault

-- The error of the first immediate that cannot be read, in a sequence of these kinds.
abbrev pub KindsFault : WasmFeatures → ℕ → List Kind → Message → Reader → ℕ → Type 0
KindsFault f start [] m r offset = ⊥
KindsFault f start (k ∷ ks) m r offset = ThenFault (EncodesKind f k) (KindFault f start k) (λ i. KindsFault f start ks) m r offset

-- The message if no operator has this opcode, or this subopcode after its prefix byte.
abbrev pub unknown_message : Option ℕ → ℕ → Message
unknown_message None code = message.IllegalOpcode code
unknown_message (Some prefix) code = message.UnknownSubopcode prefix code

-- The error of an operator without a guard that began at `start`, after its opcode `code`, or its
-- subopcode `code` after the byte `prefix`.
abbrev pub FreeFault : WasmFeatures → ℕ → Option ℕ → ℕ → Entry → Message → Reader → ℕ → Type 0
FreeFault f start prefix code unknown m r offset = (m ≡ unknown_message prefix code) × (offset ≡ start)
FreeFault f start prefix code (free ks) m r offset = KindsFault f start ks m r offset
FreeFault f start prefix code _ m r offset = ⊥

-- The error after a prefix byte and a subopcode, of an operator that began at `start`.
abbrev pub SubopcodeFault : WasmFeatures → ℕ → ℕ → ℕ → Message → Reader → ℕ → Type 0
SubopcodeFault f start prefix code = FreeFault f start (Some prefix) code (entry_at (Some prefix) code)

-- This operator needs a feature that is off.
abbrev pub LacksFeature : WasmFeatures → Guard → Type 0
LacksFeature f g = NeedsLegacy g × ¬ HasFeature legacy_exceptions f

-- `WrongFrame` after the opcode if the frame does not allow the operator, otherwise an error of the immediates.
abbrev pub FrameFault : FrameKind → Guard → (Message → Reader → ℕ → Type 0) → Message → Reader → ℕ → Type 0
FrameFault k g Later m r offset = CheckFault (¬ Allows k (guarded_role g)) (message.WrongFrame (guarded_instruction g) (needed_frame g)) (offset_of r) Later m r offset

-- `FeatureRequired` at the operator's start if its feature is off, otherwise `FrameFault`.
abbrev pub GuardFault : WasmFeatures → FrameKind → ℕ → Guard → (Message → Reader → ℕ → Type 0) → Message → Reader → ℕ → Type 0
GuardFault f k start g Later = CheckFault (LacksFeature f g) (message.FeatureRequired (guarded_instruction g)) start (FrameFault k g Later)

-- The error after an opcode with this entry.
abbrev pub EntryFault : WasmFeatures → FrameKind → ℕ → ℕ → Entry → Message → Reader → ℕ → Type 0
EntryFault f k start code prefixes m r offset = ThenFault (EncodesUnsigned 32) U32Fault (SubopcodeFault f start code) m r offset
EntryFault f k start code (guarded g ks) m r offset = GuardFault f k start g (KindsFault f start ks) m r offset
EntryFault f k start code entry m r offset = FreeFault f start None code entry m r offset

-- The error after the opcode of an operator that began at `start`, in a frame of this kind.
abbrev pub OpcodeFault : WasmFeatures → FrameKind → ℕ → ℕ → Message → Reader → ℕ → Type 0
OpcodeFault f k start code = EntryFault f k start code (entry_at None code)

-- The error of an operator, in a frame of this kind.
abbrev pub OperatorFault : WasmFeatures → FrameKind → Message → Reader → ℕ → Type 0
OperatorFault f k m r offset = ThenFault IsByte EndFault (OpcodeFault f k (offset_of r)) m r offset

-- As `OperatorFault`, except that the byte 0xfd gives `UnexpectedSimd`, whatever follows.
abbrev pub ScalarOperatorFault : WasmFeatures → FrameKind → Message → Reader → ℕ → Type 0
ScalarOperatorFault f k m r offset = CheckFault (BeginsWith 0xfd (rest r)) message.UnexpectedSimd (offset_of r) (OperatorFault f k) m r offset

-- The error if this frame is the innermost one, or OperatorsRemaining if none is open.
abbrev pub FaultIn : (FrameKind → Message → Reader → ℕ → Type 0) → Option FrameKind → Message → Reader → ℕ → Type 0
FaultIn Fault None m r offset = (m ≡ message.OperatorsRemaining) × (offset ≡ offset_of r)
FaultIn Fault (Some k) m r offset = Fault k m r offset
