use Rattle.std.proofs.Common.{ℕ, List, [], ◌∷◌, Option, Some, None, sym, ◌∙◌}
use Rattle.wasm_below.specs.declared.features.WasmFeatures.{WasmFeatures}
use Rattle.wasm_below.specs.declared.message.Message.{Message}
use Rattle.wasm_below.specs.declared.message.Message.TheVariants as message
use Rattle.wasm_below.specs.declared.message.NumberName.TheVariants as number_name
use Rattle.wasm_below.specs.Fault.{DeterminesRefusal}
use Rattle.wasm_below.specs.Features.{multi_memory, call_indirect_overlong}
use Rattle.wasm_below.specs.Number.{EncodesUnsigned}
use Rattle.wasm_below.specs.Source.{Reader, rest, offset_of, BeginsWith, IsByte, U32Fault, EndFault, EndsWithin}
use Rattle.wasm_below.proofs.DeterminedRefusals.{number_determines, u32_determines, end_determines, then_determines}
use Rattle.wasm_below.proofs.DeterminedTypeRefusals.{heap_determines}
use Rattle.wasm_below.proofs.PrefixCode.{unsigned_prefix_code, byte_prefix_code}
use Rattle.wasm_grammar.specs.declared.frame_kind.FrameKind.{FrameKind}
use Rattle.wasm_grammar.specs.Frames.{Allows}
use Rattle.wasm_imm.specs.MemoryArgumentFaults.{CheckFault}
use Rattle.wasm_imm.proofs.DeterminedMemoryArgumentRefusals.{check_determines, memarg_determines}
use Rattle.wasm_imm.proofs.DeterminedRefusals.{index_determines, ordering_byte_determines, fence_determines}
use Rattle.wasm_imm.proofs.ConstantDeterminedRefusals.{lanes_determines}
use Rattle.wasm_imm.proofs.DeterminedControlRefusals.{branch_determines, select_determines, block_determines, cast_determines, try_determines, resume_determines}
use Rattle.wasm_imm.specs.Immediate.{Kind, is_unsigned_32, is_signed_32, is_signed_64, is_float_32, is_float_64, is_vector, is_one_lane, is_sixteen_lanes, is_memory_argument, is_memory_index, is_table_index, is_order, is_fence_order, is_heap_type, is_cast, is_block_type, is_branch_table, is_select_types, is_try_clauses, is_resume_clauses}
use Rattle.wasm_decode_opcodes.specs.declared.guard.Guard.{Guard}
use Rattle.wasm_decode_opcodes.specs.Entry.{Entry, unknown, prefixes, free, guarded, guarded_role, guarded_instruction, needed_frame}
use Rattle.wasm_decode_opcodes.specs.Entries.{entry_at}
use Rattle.wasm_decode_opcodes.specs.Kinds.{EncodesKind}
use Rattle.wasm_decode_opcodes.specs.OperatorFaults.{KindFault, KindsFault, FreeFault, SubopcodeFault, LacksFeature, GuardFault, EntryFault, OpcodeFault, OperatorFault, ScalarOperatorFault, FaultIn}
use Rattle.wasm_decode_opcodes.proofs.KindLemmas.{kind_prefix_code}

ends_determines : (n : ℕ) → DeterminesRefusal (EndsWithin n)
ends_determines n m k r a b h q = (h.0 ∙ sym q.0, h.1 ∙ sym q.1)

kind_determines : (f : WasmFeatures) (start : ℕ) (k : Kind) → DeterminesRefusal (KindFault f start k)
kind_determines f start is_unsigned_32 = u32_determines
kind_determines f start is_signed_32 = number_determines 32 number_name.VarI32
kind_determines f start is_signed_64 = number_determines 64 number_name.VarI64
kind_determines f start is_float_32 = ends_determines 4
kind_determines f start is_float_64 = ends_determines 8
kind_determines f start is_vector = ends_determines 16
kind_determines f start is_one_lane = end_determines
kind_determines f start is_sixteen_lanes = lanes_determines
kind_determines f start (is_memory_argument kind max) = memarg_determines f kind
kind_determines f start is_memory_index = index_determines multi_memory f
kind_determines f start is_table_index = index_determines call_indirect_overlong f
kind_determines f start is_order = ordering_byte_determines
kind_determines f start is_fence_order = fence_determines f start
kind_determines f start is_heap_type = heap_determines
kind_determines f start is_cast = cast_determines
kind_determines f start is_block_type = block_determines
kind_determines f start is_branch_table = branch_determines
kind_determines f start is_select_types = select_determines
kind_determines f start is_try_clauses = try_determines
kind_determines f start is_resume_clauses = resume_determines

kinds_determines : (f : WasmFeatures) (start : ℕ) (ks : List Kind) → DeterminesRefusal (KindsFault f start ks)
kinds_determines f start [] m k r a b h q = absurd h
kinds_determines f start (x ∷ ks) m k r a b h q =
    then_determines (EncodesKind f x) (KindFault f start x) (λ i. KindsFault f start ks) (kind_prefix_code f x) (kind_determines f start x)
    (λ i. kinds_determines f start ks) m k r a b h q

free_determines : (f : WasmFeatures) (start : ℕ) (p : Option ℕ) (code : ℕ) (e : Entry) → DeterminesRefusal (FreeFault f start p code e)
free_determines f start p code unknown m k r a b h q = (h.0 ∙ sym q.0, h.1 ∙ sym q.1)
free_determines f start p code (free ks) m k r a b h q = kinds_determines f start ks m k r a b h q
free_determines f start p code prefixes m k r a b h q = absurd h
free_determines f start p code (guarded g ks) m k r a b h q = absurd h

guard_determines : (f : WasmFeatures) (k : FrameKind) (start : ℕ) (g : Guard) (Later : Message → Reader → ℕ → Type 0) → DeterminesRefusal Later →
    DeterminesRefusal (GuardFault f k start g Later)
guard_determines f k start g Later d =
    check_determines (LacksFeature f g) (message.FeatureRequired (guarded_instruction g)) start inner
    (λ m n r a b h q. check_determines (¬ Allows k (guarded_role g)) (message.WrongFrame (guarded_instruction g) (needed_frame g)) (offset_of r) Later d m n r a b h q)
  where
    inner : Message → Reader → ℕ → Type 0
    inner m r = CheckFault (¬ Allows k (guarded_role g)) (message.WrongFrame (guarded_instruction g) (needed_frame g)) (offset_of r) Later m r

entry_determines : (f : WasmFeatures) (k : FrameKind) (start code : ℕ) (e : Entry) → DeterminesRefusal (EntryFault f k start code e)
entry_determines f k start code prefixes m n r a b h q =
    then_determines (EncodesUnsigned 32) U32Fault (SubopcodeFault f start code) (λ a b x y m n p q e. unsigned_prefix_code a b 32 x y m n p q e) u32_determines
    (λ sub. free_determines f start (Some code) sub (entry_at (Some code) sub)) m n r a b h q
entry_determines f k start code (guarded g ks) m n r a b h q =
    guard_determines f k start g (KindsFault f start ks) (kinds_determines f start ks) m n r a b h q
entry_determines f k start code unknown m n r a b h q = free_determines f start None code unknown m n r a b h q
entry_determines f k start code (free ks) m n r a b h q = free_determines f start None code (free ks) m n r a b h q

pub operator_determines : (f : WasmFeatures) (k : FrameKind) → DeterminesRefusal (OperatorFault f k)
operator_determines f k m n r a b h q =
    then_determines IsByte EndFault (OpcodeFault f k (offset_of r)) byte_prefix_code end_determines
    (λ code. entry_determines f k (offset_of r) code (entry_at None code)) m n r a b h q

pub scalar_determines : (f : WasmFeatures) (k : FrameKind) → DeterminesRefusal (ScalarOperatorFault f k)
scalar_determines f k m n r a b h q =
    check_determines (BeginsWith 0xfd (rest r)) message.UnexpectedSimd (offset_of r) (OperatorFault f k) (operator_determines f k) m n r a b h q

pub in_determines : (F : FrameKind → Message → Reader → ℕ → Type 0) → ((k : FrameKind) → DeterminesRefusal (F k)) → (frame : Option FrameKind) → DeterminesRefusal (FaultIn F frame)
in_determines F d None m n r a b h q = (h.0 ∙ sym q.0, h.1 ∙ sym q.1)
in_determines F d (Some k) m n r a b h q = d k m n r a b h q
