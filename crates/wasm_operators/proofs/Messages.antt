-- The messages of an operator's errors.
use Rattle.std.proofs.Common.{◌≡◌, ◌≢◌, ℕ, zero, suc, inl, inr, List, [], ◌∷◌, Option, Some, None, true, false, sym, subst}
use Rattle.wasm_below.specs.declared.features.WasmFeatures.{WasmFeatures}
use Rattle.wasm_below.specs.declared.message.LeadingByteName.{LeadingByteName}
use Rattle.wasm_below.specs.declared.message.LeadingByteName.TheVariants as leading_name
use Rattle.wasm_below.specs.declared.message.Message.{Message}
use Rattle.wasm_below.specs.declared.message.Message.TheVariants as message
use Rattle.wasm_below.specs.declared.message.SizeName.{SizeName}
use Rattle.wasm_below.specs.declared.message.SizeName.TheVariants as size_name
use Rattle.wasm_below.specs.declared.message.TypeName.{TypeName}
use Rattle.wasm_below.specs.declared.message.TypeName.TheVariants as type_name
use Rattle.wasm_below.specs.Fault.{ThenFault, ManyFault}
use Rattle.wasm_below.specs.Features.{multi_memory, call_indirect_overlong}
use Rattle.wasm_below.specs.Number.{EncodesUnsigned, EncodesSigned, EncodesSize}
use Rattle.wasm_below.specs.PartFaults.{CheckedByteFault}
use Rattle.wasm_below.specs.Refusal.{IsReadFault}
use Rattle.wasm_below.specs.Source.{Reader, offset_of, IsByte, NumberFault, U32Fault, U64Fault, S33Fault, CountFault, EndFault}
use Rattle.wasm_below.specs.TypeEncoding.{after_byte, EncodesHeapType, EncodesValType, ShortFault, ByteFault, NoIndex, HeapTypeFault, RefTypeFault, ValTypeFault}
use Rattle.wasm_grammar.specs.declared.frame_kind.FrameKind.{FrameKind}
use Rattle.wasm_imm.specs.declared.memory_argument.MemArgKind.{MemArgKind}
use Rattle.wasm_imm.specs.BlockTypeFaults.{BlockTypeFault, NegativeFault}
use Rattle.wasm_imm.specs.BlockTypes.{EncodesBlockType}
use Rattle.wasm_imm.specs.BranchTableFaults.{BranchTableFault}
use Rattle.wasm_imm.specs.BranchTables.{max_targets}
use Rattle.wasm_imm.specs.CastFaults.{CastFault, CastTypesFault}
use Rattle.wasm_imm.specs.FlagsNumber.{NamesBoth, OrdersPlain, IsReserved, IsTarget, IsOrdering}
use Rattle.wasm_imm.specs.HandlerFaults.{IsLeading, LeadingFault, IndicesFault, CatchFault, HandleFault}
use Rattle.wasm_imm.specs.HandlerTables.{max_catches, max_handlers, max_select_types}
use Rattle.wasm_imm.specs.Handlers.{EncodesCatch, EncodesHandle}
use Rattle.wasm_imm.specs.Indices.{IndexFault}
use Rattle.wasm_imm.specs.ListFaults.{ListFault, TryTableFault}
use Rattle.wasm_imm.specs.MemoryArgumentFaults.{CheckFault, TargetFault, IsNoOrdering, OrderingFault, OffsetFault, FaultAfterOrdering, FaultAfterTarget, FlagsFault, MemArgFault}
use Rattle.wasm_imm.specs.Orderings.{OrderingByteFault, FenceFault}
use Rattle.wasm_imm.specs.Immediate.{Kind, is_unsigned_32, is_signed_32, is_signed_64, is_float_32, is_float_64, is_vector, is_one_lane, is_sixteen_lanes, is_memory_argument, is_memory_index, is_table_index, is_order, is_fence_order, is_heap_type, is_cast, is_block_type, is_branch_table, is_select_types, is_try_clauses, is_resume_clauses}
use Rattle.wasm_decode_opcodes.specs.declared.guard.Guard.{Guard}
use Rattle.wasm_decode_opcodes.specs.Entry.{Entry, unknown, prefixes, free, guarded}
use Rattle.wasm_decode_opcodes.specs.Entries.{entry_at}
use Rattle.wasm_decode_opcodes.specs.Kinds.{EncodesKind}
use Rattle.wasm_decode_opcodes.specs.OperatorFaults.{KindFault, KindsFault, FreeFault, SubopcodeFault, unknown_message, GuardFault, EntryFault, OperatorFault, ScalarOperatorFault}

abbrev pub IsUnguarded : Message → Type 0
IsUnguarded (message.FeatureRequired _) = ⊥
IsUnguarded (message.WrongFrame _ _) = ⊥
IsUnguarded m = IsReadFault m

read_fault : (m : Message) → IsUnguarded m → IsReadFault m
read_fault (message.FeatureRequired _) h = absurd h
read_fault (message.WrongFrame _ _) h = absurd h
read_fault _ h = h

abbrev pub Unguarded : (Message → Reader → ℕ → Type 0) → Type 0
Unguarded Fault = (m : Message) (r : Reader) (offset : ℕ) → Fault m r offset → IsUnguarded m

one : (m reported : Message) → IsUnguarded reported → m ≡ reported → IsUnguarded m
one m reported h e = subst IsUnguarded (sym e) h

pub then_unguarded : {X : Type 0} (First : List ℕ → X → Type 0) (FirstFault : Message → Reader → ℕ → Type 0) (After : X → Message → Reader → ℕ → Type 0) →
    Unguarded FirstFault → ((x : X) → Unguarded (After x)) → Unguarded (ThenFault First FirstFault After)
then_unguarded First FirstFault After f g m r offset (inl h) = f m r offset h.1
then_unguarded First FirstFault After f g m r offset (inr (x, new, _, h)) = g x m new offset h

many_unguarded : {X : Type 0} (Encodes : List ℕ → X → Type 0) (Fault : Message → Reader → ℕ → Type 0) → Unguarded Fault → (n : ℕ) → Unguarded (ManyFault Encodes Fault n)
many_unguarded Encodes Fault f zero m r offset h = absurd h
many_unguarded Encodes Fault f (suc n) m r offset h = then_unguarded Encodes Fault (λ x. ManyFault Encodes Fault n) f (λ x. many_unguarded Encodes Fault f n) m r offset h

check_unguarded : (IsWrong : Type 0) (refusal : Message) (place : ℕ) (Later : Message → Reader → ℕ → Type 0) → IsUnguarded refusal → Unguarded Later →
    Unguarded (CheckFault IsWrong refusal place Later)
check_unguarded IsWrong refusal place Later is f m r offset (inl h) = one m refusal is h.1
check_unguarded IsWrong refusal place Later is f m r offset (inr h) = f m r offset h.1

pub end_unguarded : Unguarded EndFault
end_unguarded m r offset h = one m message.EndOfData tt h.0

byte_unguarded : (IsWrong : ℕ → Type 0) (refusal : ℕ → Message) (place : ℕ) → ((byte : ℕ) → IsUnguarded (refusal byte)) → Unguarded (CheckedByteFault IsWrong refusal place)
byte_unguarded IsWrong refusal place is m r offset (inl h) = end_unguarded m r offset h
byte_unguarded IsWrong refusal place is m r offset (inr (byte, _, _, e, _)) = one m (refusal byte) (is byte) e

number_unguarded : (width : ℕ) → Unguarded (λ m r offset. NumberFault m width r offset)
number_unguarded width message.EndOfData r offset h = tt
number_unguarded width (message.IntegerTooLong _) r offset h = tt
number_unguarded width (message.IntegerTooLarge _) r offset h = tt
number_unguarded width _ r offset h = absurd h

pub u32_unguarded : Unguarded U32Fault
u32_unguarded m r offset h = number_unguarded 32 m r offset h.0

u64_unguarded : Unguarded U64Fault
u64_unguarded m r offset h = number_unguarded 64 m r offset h.0

s33_unguarded : Unguarded S33Fault
s33_unguarded message.EndOfData r offset h = tt
s33_unguarded (message.IntegerTooLong _) r offset h = tt
s33_unguarded _ r offset h = absurd h.0

count_unguarded : (name : SizeName) (limit : ℕ) → Unguarded (CountFault name limit)
count_unguarded name limit (message.SizeOutOfBounds _) r offset h = tt
count_unguarded name limit m r offset h = number_unguarded 32 m r offset h.0.0

short_unguarded : (name : TypeName) → Unguarded (ShortFault name)
short_unguarded name message.EndOfData r offset h = tt
short_unguarded name (message.InvalidType _) r offset h = tt
short_unguarded name _ r offset h = absurd h

one_byte_unguarded : (name : TypeName) → Unguarded (ByteFault name)
one_byte_unguarded name message.EndOfData r offset h = tt
one_byte_unguarded name (message.InvalidType _) r offset h = tt
one_byte_unguarded name _ r offset h = absurd h

no_index_unguarded : (begin : Reader) → Unguarded (NoIndex begin)
no_index_unguarded begin m r offset h = one m (message.InvalidType type_name.HeapType) tt h.0

heap_unguarded : Unguarded HeapTypeFault
heap_unguarded m r offset (inl (_, inl h)) = u32_unguarded m (after_byte r) offset h.1
heap_unguarded m r offset (inl (_, inr (n, new, _, h))) = no_index_unguarded r m new offset h
heap_unguarded m r offset (inr (inl (_, h))) = short_unguarded type_name.HeapType m r offset h
heap_unguarded m r offset (inr (inr (_, _, h))) = then_unguarded (EncodesSigned 33) S33Fault (λ n. NoIndex r) s33_unguarded (λ n. no_index_unguarded r) m r offset h

ref_unguarded : Unguarded RefTypeFault
ref_unguarded m r offset (inl (nullable, _, h)) = heap_unguarded m (after_byte r) offset h
ref_unguarded m r offset (inr (_, h)) = short_unguarded type_name.ReferenceType m r offset h

val_unguarded : Unguarded ValTypeFault
val_unguarded m r offset (inl (byte, _, _, h)) = ref_unguarded m r offset h
val_unguarded m r offset (inr (_, h)) = one_byte_unguarded type_name.ValueType m r offset h

block_unguarded : Unguarded BlockTypeFault
block_unguarded m r offset (inl (byte, _, _, h)) = val_unguarded m r offset h
block_unguarded m r offset (inr (_, h)) = then_unguarded (EncodesSigned 33) S33Fault NegativeFault s33_unguarded (λ n m r offset h. one m message.InvalidFunctionType tt h.1) m r offset h

branch_unguarded : Unguarded BranchTableFault
branch_unguarded =
    then_unguarded (EncodesSize max_targets) (CountFault size_name.BrTable max_targets) (λ count. ManyFault (EncodesUnsigned 32) U32Fault (suc count))
    (count_unguarded size_name.BrTable max_targets) (λ count. many_unguarded (EncodesUnsigned 32) U32Fault u32_unguarded (suc count))

cast_types_unguarded : (start flags : ℕ) → Unguarded (CastTypesFault start flags)
cast_types_unguarded start flags m r offset (inl (_, e, _)) = one m (message.InvalidCastFlags flags) tt e
cast_types_unguarded start flags m r offset (inr (_, h)) = then_unguarded EncodesHeapType HeapTypeFault (λ first. HeapTypeFault) heap_unguarded (λ first. heap_unguarded) m r offset h

cast_unguarded : Unguarded CastFault
cast_unguarded m r offset h =
    then_unguarded IsByte EndFault (λ flags. ThenFault (EncodesUnsigned 32) U32Fault (λ label. CastTypesFault (offset_of r) flags)) end_unguarded
    (λ flags. then_unguarded (EncodesUnsigned 32) U32Fault (λ label. CastTypesFault (offset_of r) flags) u32_unguarded (λ label. cast_types_unguarded (offset_of r) flags)) m r offset h

list_unguarded : {X : Type 0} (name : SizeName) (limit : ℕ) (Encodes : List ℕ → X → Type 0) (Fault : Message → Reader → ℕ → Type 0) → Unguarded Fault →
    Unguarded (ListFault name limit Encodes Fault)
list_unguarded name limit Encodes Fault f =
    then_unguarded (EncodesSize limit) (CountFault name limit) (ManyFault Encodes Fault) (count_unguarded name limit) (many_unguarded Encodes Fault f)

leading_unguarded : (name : LeadingByteName) (highest : ℕ) → Unguarded (LeadingFault name highest)
leading_unguarded name highest m r offset (inl h) = end_unguarded m r offset h
leading_unguarded name highest m r offset (inr (byte, _, _, e, _)) = one m (message.InvalidLeadingByte byte name) tt e

indices_unguarded : (last byte : ℕ) → Unguarded (IndicesFault last byte)
indices_unguarded last byte m r offset (inl (_, h)) = then_unguarded (EncodesUnsigned 32) U32Fault (λ tag. U32Fault) u32_unguarded (λ tag. u32_unguarded) m r offset h
indices_unguarded last byte m r offset (inr (_, h)) = u32_unguarded m r offset h

catch_unguarded : Unguarded CatchFault
catch_unguarded = then_unguarded (IsLeading 3) (LeadingFault leading_name.Catch 3) (IndicesFault 1) (leading_unguarded leading_name.Catch 3) (indices_unguarded 1)

handle_unguarded : Unguarded HandleFault
handle_unguarded = then_unguarded (IsLeading 1) (LeadingFault leading_name.OnClause 1) (IndicesFault 0) (leading_unguarded leading_name.OnClause 1) (indices_unguarded 0)

try_unguarded : Unguarded TryTableFault
try_unguarded =
    then_unguarded EncodesBlockType BlockTypeFault (λ ty. ListFault size_name.Catches max_catches EncodesCatch CatchFault) block_unguarded
    (λ ty. list_unguarded size_name.Catches max_catches EncodesCatch CatchFault catch_unguarded)

index_unguarded : (feature f : WasmFeatures) → Unguarded (IndexFault feature f)
index_unguarded feature f m r offset (inl (_, h)) = u32_unguarded m r offset h
index_unguarded feature f m r offset (inr (_, h)) = byte_unguarded (λ byte. byte ≢ 0) (λ byte. message.ZeroByteExpected) (offset_of r) (λ byte. tt) m r offset h

ordering_byte_unguarded : Unguarded OrderingByteFault
ordering_byte_unguarded m r offset (inl h) = end_unguarded m r offset h
ordering_byte_unguarded m r offset (inr (byte, _, _, e, _)) = one m (message.InvalidOrdering byte false) tt e

fence_unguarded : (f : WasmFeatures) (start : ℕ) → Unguarded (FenceFault f start)
fence_unguarded f start m r offset (inl (_, h)) = ordering_byte_unguarded m r offset h
fence_unguarded f start m r offset (inr (_, h)) = byte_unguarded (λ byte. byte ≢ 0) (λ byte. message.NonzeroAfterFence) start (λ byte. tt) m r offset h

offset_unguarded : (f : WasmFeatures) → Unguarded (OffsetFault f)
offset_unguarded f m r offset (inl (_, h)) = u64_unguarded m r offset h
offset_unguarded f m r offset (inr (_, h)) = u32_unguarded m r offset h

ordering_unguarded : (f : WasmFeatures) (k : MemArgKind) (flags : ℕ) → Unguarded (OrderingFault f k flags)
ordering_unguarded f k flags m r offset (_, h) = byte_unguarded (IsNoOrdering k) (λ byte. message.InvalidOrdering byte true) (offset_of r) (λ byte. tt) m r offset h

after_ordering_unguarded : (f : WasmFeatures) (flags start : ℕ) → Unguarded (FaultAfterOrdering f flags start)
after_ordering_unguarded f flags start = check_unguarded (IsReserved f flags) message.ReservedFlags start (OffsetFault f) tt (offset_unguarded f)

after_target_unguarded : (f : WasmFeatures) (k : MemArgKind) (flags start : ℕ) → Unguarded (FaultAfterTarget f k flags start)
after_target_unguarded f k flags start =
    check_unguarded (OrdersPlain f k flags) message.OrderingOnPlain start (ThenFault (IsOrdering f k flags) (OrderingFault f k flags) (λ o. FaultAfterOrdering f flags start)) tt
    (then_unguarded (IsOrdering f k flags) (OrderingFault f k flags) (λ o. FaultAfterOrdering f flags start) (ordering_unguarded f k flags) (λ o. after_ordering_unguarded f flags start))

flags_unguarded : (f : WasmFeatures) (k : MemArgKind) (flags start : ℕ) → Unguarded (FlagsFault f k flags start)
flags_unguarded f k flags start =
    check_unguarded (NamesBoth f flags) message.MemoryAndArray start (ThenFault (IsTarget f flags) (TargetFault f flags) (λ t. FaultAfterTarget f k flags start)) tt
    (then_unguarded (IsTarget f flags) (TargetFault f flags) (λ t. FaultAfterTarget f k flags start) (λ m r offset h. u32_unguarded m r offset h.1)
    (λ t. after_target_unguarded f k flags start))

memarg_unguarded : (f : WasmFeatures) (k : MemArgKind) → Unguarded (MemArgFault f k)
memarg_unguarded f k m r offset h =
    then_unguarded (EncodesUnsigned 32) U32Fault (λ flags. FlagsFault f k flags (offset_of r)) u32_unguarded (λ flags. flags_unguarded f k flags (offset_of r)) m r offset h

kind_unguarded : (f : WasmFeatures) (start : ℕ) (k : Kind) → Unguarded (KindFault f start k)
kind_unguarded f start is_unsigned_32 = u32_unguarded
kind_unguarded f start is_signed_32 = λ m r offset h. number_unguarded 32 m r offset h.0
kind_unguarded f start is_signed_64 = λ m r offset h. number_unguarded 64 m r offset h.0
kind_unguarded f start is_float_32 = λ m r offset h. one m message.EndOfData tt h.0
kind_unguarded f start is_float_64 = λ m r offset h. one m message.EndOfData tt h.0
kind_unguarded f start is_vector = λ m r offset h. one m message.EndOfData tt h.0
kind_unguarded f start is_one_lane = end_unguarded
kind_unguarded f start is_sixteen_lanes = λ m r offset h. one m message.EndOfData tt h.0
kind_unguarded f start (is_memory_argument kind max) = memarg_unguarded f kind
kind_unguarded f start is_memory_index = index_unguarded multi_memory f
kind_unguarded f start is_table_index = index_unguarded call_indirect_overlong f
kind_unguarded f start is_order = ordering_byte_unguarded
kind_unguarded f start is_fence_order = fence_unguarded f start
kind_unguarded f start is_heap_type = heap_unguarded
kind_unguarded f start is_cast = cast_unguarded
kind_unguarded f start is_block_type = block_unguarded
kind_unguarded f start is_branch_table = branch_unguarded
kind_unguarded f start is_select_types = list_unguarded size_name.SelectTypes max_select_types EncodesValType ValTypeFault val_unguarded
kind_unguarded f start is_try_clauses = try_unguarded
kind_unguarded f start is_resume_clauses = list_unguarded size_name.ResumeTable max_handlers EncodesHandle HandleFault handle_unguarded

pub kinds_unguarded : (f : WasmFeatures) (start : ℕ) (ks : List Kind) → Unguarded (KindsFault f start ks)
kinds_unguarded f start [] m r offset h = absurd h
kinds_unguarded f start (k ∷ ks) m r offset h =
    then_unguarded (EncodesKind f k) (KindFault f start k) (λ i. KindsFault f start ks) (kind_unguarded f start k) (λ i. kinds_unguarded f start ks) m r offset h

unknown_unguarded : (p : Option ℕ) (code : ℕ) → IsUnguarded (unknown_message p code)
unknown_unguarded None code = tt
unknown_unguarded (Some p) code = tt

pub free_unguarded : (f : WasmFeatures) (start : ℕ) (p : Option ℕ) (code : ℕ) (e : Entry) → Unguarded (FreeFault f start p code e)
free_unguarded f start p code unknown m r offset h = one m (unknown_message p code) (unknown_unguarded p code) h.0
free_unguarded f start p code (free ks) m r offset h = kinds_unguarded f start ks m r offset h
free_unguarded f start p code prefixes m r offset h = absurd h
free_unguarded f start p code (guarded g ks) m r offset h = absurd h

pub subopcode_unguarded : (f : WasmFeatures) (start code : ℕ) → Unguarded (ThenFault (EncodesUnsigned 32) U32Fault (SubopcodeFault f start code))
subopcode_unguarded f start code =
    then_unguarded (EncodesUnsigned 32) U32Fault (SubopcodeFault f start code) u32_unguarded (λ sub. free_unguarded f start (Some code) sub (entry_at (Some code) sub))

guard_read : (f : WasmFeatures) (k : FrameKind) (start : ℕ) (g : Guard) (ks : List Kind) (m : Message) (r : Reader) (offset : ℕ) →
    GuardFault f k start g (KindsFault f start ks) m r offset → IsReadFault m
guard_read f k start g ks m r offset (inl h) = subst IsReadFault (sym h.1) tt
guard_read f k start g ks m r offset (inr (_, inl h)) = subst IsReadFault (sym h.1) tt
guard_read f k start g ks m r offset (inr (_, inr (_, h))) = read_fault m (kinds_unguarded f start ks m r offset h)

entry_read : (f : WasmFeatures) (k : FrameKind) (start code : ℕ) (e : Entry) (m : Message) (r : Reader) (offset : ℕ) →
    EntryFault f k start code e m r offset → IsReadFault m
entry_read f k start code prefixes m r offset h = read_fault m (subopcode_unguarded f start code m r offset h)
entry_read f k start code (guarded g ks) m r offset h = guard_read f k start g ks m r offset h
entry_read f k start code unknown m r offset h = read_fault m (free_unguarded f start None code unknown m r offset h)
entry_read f k start code (free ks) m r offset h = read_fault m (free_unguarded f start None code (free ks) m r offset h)

pub operator_read_fault : (f : WasmFeatures) (k : FrameKind) (m : Message) (r : Reader) (offset : ℕ) → OperatorFault f k m r offset → IsReadFault m
operator_read_fault f k m r offset (inl h) = read_fault m (end_unguarded m r offset h.1)
operator_read_fault f k m r offset (inr (code, new, _, h)) = entry_read f k (offset_of r) code (entry_at None code) m new offset h

pub scalar_read_fault : (f : WasmFeatures) (k : FrameKind) (m : Message) (r : Reader) (offset : ℕ) → ScalarOperatorFault f k m r offset → IsReadFault m
scalar_read_fault f k m r offset (inl h) = subst IsReadFault (sym h.1) tt
scalar_read_fault f k m r offset (inr (_, h)) = operator_read_fault f k m r offset h
