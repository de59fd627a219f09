-- Immediates that the C struct determines completely.
use Rattle.std.proofs.Common.{◌≡◌, ℕ, ℤ, ◌-◌, Bool, true, false, cond, eqb, ltb, List, [], ◌∷◌, Option, Some, None, map, refl, sym, ap, ◌∙◌, FitsSigned}
use Rattle.std.specs.Int.{w64, cast_signed}
use Rattle.std.proofs.lemmas.Int.{to_z-of_z}
use Rattle.wasm_below.specs.declared.types.AbstractHeapType.{AbstractHeapType}
use Rattle.wasm_below.specs.declared.types.AbstractHeapType.TheVariants as ty
use Rattle.wasm_below.specs.declared.types.HeapType.{HeapType}
use Rattle.wasm_below.specs.declared.types.HeapType.TheVariants as heap
use Rattle.wasm_below.specs.declared.types.ValType.{ValType}
use Rattle.wasm_below.specs.declared.types.ValType.TheVariants as value
use Rattle.wasm_below.specs.Reference.{Reference}
use Rattle.wasm_imm.specs.declared.block_type.BlockType.{BlockType}
use Rattle.wasm_imm.specs.declared.block_type.BlockType.TheVariants as block
use Rattle.wasm_imm.specs.declared.select.Select.TheVariants as select
use Rattle.wasm_imm.specs.declared.memory_argument.MemArgTarget.{MemArgTarget}
use Rattle.wasm_imm.specs.declared.memory_argument.MemArgTarget.TheVariants as target
use Rattle.wasm_imm.specs.declared.memory_argument.MemArgOrdering.{MemArgOrdering}
use Rattle.wasm_imm.specs.declared.memory_argument.MemArgOrdering.TheVariants as ordering
use Rattle.wasm_imm.specs.declared.memory_argument.MemArg.{MemArg}
use Rattle.wasm_imm.specs.declared.ordering.Ordering.{Ordering}
use Rattle.wasm_imm.specs.declared.ordering.Ordering.TheVariants.{AcqRel, SeqCst}
use Rattle.wasm_imm.specs.Immediate.{Immediate, Kind, kind_of, unsigned_32, signed_32, signed_64, float_32, float_64, vector, one_lane, sixteen_lanes, memory_argument, memory_index, table_index_32, order, fence_order, heap_type, cast, block_type, branch_table, select_types, try_clauses, resume_clauses, is_unsigned_32, is_signed_32, is_signed_64, is_float_32, is_float_64, is_vector, is_one_lane, is_sixteen_lanes, is_memory_argument, is_memory_index, is_table_index, is_order, is_fence_order, is_heap_type, is_cast, is_block_type, is_select_types}
use Rattle.wasm_view.specs.Numbers.{heap_kind, heap_index, reference_kind, value_kind, value_index, block_kind, block_index, target_number, target_index, order_number, ordering_number}
use Rattle.wasm_view.specs.View.{view}
use Rattle.wasm_view.specs.declared.view.WasmOperator.{WasmOperator}

abbrev abstract_at : ℕ → AbstractHeapType
abstract_at n = cond (eqb n 0x75) ty.NoCont (cond (eqb n 0x74) ty.NoExn (cond (eqb n 0x73) ty.NoFunc (cond (eqb n 0x72) ty.NoExtern (cond (eqb n 0x71) ty.None
    (cond (eqb n 0x70) ty.Func (cond (eqb n 0x6f) ty.Extern (cond (eqb n 0x6e) ty.Any (cond (eqb n 0x6d) ty.Eq (cond (eqb n 0x6c) ty.I31
    (cond (eqb n 0x6b) ty.Struct (cond (eqb n 0x6a) ty.Array (cond (eqb n 0x69) ty.Exn ty.Cont))))))))))))

abbrev heap_at : ℕ → ℕ → HeapType
heap_at kind index =
    cond (eqb kind 1) (heap.Concrete index) (cond (eqb kind 2) (heap.Exact index)
    (cond (ltb kind 256) (heap.Abstract false (abstract_at kind)) (heap.Abstract true (abstract_at (kind - 256)))))

heap_again : (h : HeapType) → heap_at (heap_kind h) (heap_index h) ≡ h
heap_again (heap.Abstract false ty.NoCont) = refl
heap_again (heap.Abstract false ty.NoExn) = refl
heap_again (heap.Abstract false ty.NoFunc) = refl
heap_again (heap.Abstract false ty.NoExtern) = refl
heap_again (heap.Abstract false ty.None) = refl
heap_again (heap.Abstract false ty.Func) = refl
heap_again (heap.Abstract false ty.Extern) = refl
heap_again (heap.Abstract false ty.Any) = refl
heap_again (heap.Abstract false ty.Eq) = refl
heap_again (heap.Abstract false ty.I31) = refl
heap_again (heap.Abstract false ty.Struct) = refl
heap_again (heap.Abstract false ty.Array) = refl
heap_again (heap.Abstract false ty.Exn) = refl
heap_again (heap.Abstract false ty.Cont) = refl
heap_again (heap.Abstract true ty.NoCont) = refl
heap_again (heap.Abstract true ty.NoExn) = refl
heap_again (heap.Abstract true ty.NoFunc) = refl
heap_again (heap.Abstract true ty.NoExtern) = refl
heap_again (heap.Abstract true ty.None) = refl
heap_again (heap.Abstract true ty.Func) = refl
heap_again (heap.Abstract true ty.Extern) = refl
heap_again (heap.Abstract true ty.Any) = refl
heap_again (heap.Abstract true ty.Eq) = refl
heap_again (heap.Abstract true ty.I31) = refl
heap_again (heap.Abstract true ty.Struct) = refl
heap_again (heap.Abstract true ty.Array) = refl
heap_again (heap.Abstract true ty.Exn) = refl
heap_again (heap.Abstract true ty.Cont) = refl
heap_again (heap.Concrete index) = refl
heap_again (heap.Exact index) = refl

abbrev reference_at : ℕ → ℕ → Reference
reference_at kind index =
    cond (ltb kind 512) (record { nullable = false; heap_type = heap_at kind index }) (record { nullable = true; heap_type = heap_at (kind - 512) index })

reference_again : (null : Bool) (h : HeapType) → (let r : Reference = record { nullable = null; heap_type = h } in reference_at (reference_kind r) (heap_index h) ≡ r)
reference_again false (heap.Abstract false ty.NoCont) = refl
reference_again false (heap.Abstract false ty.NoExn) = refl
reference_again false (heap.Abstract false ty.NoFunc) = refl
reference_again false (heap.Abstract false ty.NoExtern) = refl
reference_again false (heap.Abstract false ty.None) = refl
reference_again false (heap.Abstract false ty.Func) = refl
reference_again false (heap.Abstract false ty.Extern) = refl
reference_again false (heap.Abstract false ty.Any) = refl
reference_again false (heap.Abstract false ty.Eq) = refl
reference_again false (heap.Abstract false ty.I31) = refl
reference_again false (heap.Abstract false ty.Struct) = refl
reference_again false (heap.Abstract false ty.Array) = refl
reference_again false (heap.Abstract false ty.Exn) = refl
reference_again false (heap.Abstract false ty.Cont) = refl
reference_again false (heap.Abstract true ty.NoCont) = refl
reference_again false (heap.Abstract true ty.NoExn) = refl
reference_again false (heap.Abstract true ty.NoFunc) = refl
reference_again false (heap.Abstract true ty.NoExtern) = refl
reference_again false (heap.Abstract true ty.None) = refl
reference_again false (heap.Abstract true ty.Func) = refl
reference_again false (heap.Abstract true ty.Extern) = refl
reference_again false (heap.Abstract true ty.Any) = refl
reference_again false (heap.Abstract true ty.Eq) = refl
reference_again false (heap.Abstract true ty.I31) = refl
reference_again false (heap.Abstract true ty.Struct) = refl
reference_again false (heap.Abstract true ty.Array) = refl
reference_again false (heap.Abstract true ty.Exn) = refl
reference_again false (heap.Abstract true ty.Cont) = refl
reference_again false (heap.Concrete index) = refl
reference_again false (heap.Exact index) = refl
reference_again true (heap.Abstract false ty.NoCont) = refl
reference_again true (heap.Abstract false ty.NoExn) = refl
reference_again true (heap.Abstract false ty.NoFunc) = refl
reference_again true (heap.Abstract false ty.NoExtern) = refl
reference_again true (heap.Abstract false ty.None) = refl
reference_again true (heap.Abstract false ty.Func) = refl
reference_again true (heap.Abstract false ty.Extern) = refl
reference_again true (heap.Abstract false ty.Any) = refl
reference_again true (heap.Abstract false ty.Eq) = refl
reference_again true (heap.Abstract false ty.I31) = refl
reference_again true (heap.Abstract false ty.Struct) = refl
reference_again true (heap.Abstract false ty.Array) = refl
reference_again true (heap.Abstract false ty.Exn) = refl
reference_again true (heap.Abstract false ty.Cont) = refl
reference_again true (heap.Abstract true ty.NoCont) = refl
reference_again true (heap.Abstract true ty.NoExn) = refl
reference_again true (heap.Abstract true ty.NoFunc) = refl
reference_again true (heap.Abstract true ty.NoExtern) = refl
reference_again true (heap.Abstract true ty.None) = refl
reference_again true (heap.Abstract true ty.Func) = refl
reference_again true (heap.Abstract true ty.Extern) = refl
reference_again true (heap.Abstract true ty.Any) = refl
reference_again true (heap.Abstract true ty.Eq) = refl
reference_again true (heap.Abstract true ty.I31) = refl
reference_again true (heap.Abstract true ty.Struct) = refl
reference_again true (heap.Abstract true ty.Array) = refl
reference_again true (heap.Abstract true ty.Exn) = refl
reference_again true (heap.Abstract true ty.Cont) = refl
reference_again true (heap.Concrete index) = refl
reference_again true (heap.Exact index) = refl

abbrev value_at : ℕ → ℕ → ValType
value_at kind index =
    cond (eqb kind 0x7f) value.I32 (cond (eqb kind 0x7e) value.I64 (cond (eqb kind 0x7d) value.F32 (cond (eqb kind 0x7c) value.F64 (cond (eqb kind 0x7b) value.V128
    (value.Ref (reference_at (kind - 1024) index))))))

reference_value : (null : Bool) (h : HeapType) → (let v : ValType = value.Ref (record { nullable = null; heap_type = h }) in value_at (value_kind v) (value_index v) ≡ v)
reference_value false (heap.Abstract false ty.NoCont) = refl
reference_value false (heap.Abstract false ty.NoExn) = refl
reference_value false (heap.Abstract false ty.NoFunc) = refl
reference_value false (heap.Abstract false ty.NoExtern) = refl
reference_value false (heap.Abstract false ty.None) = refl
reference_value false (heap.Abstract false ty.Func) = refl
reference_value false (heap.Abstract false ty.Extern) = refl
reference_value false (heap.Abstract false ty.Any) = refl
reference_value false (heap.Abstract false ty.Eq) = refl
reference_value false (heap.Abstract false ty.I31) = refl
reference_value false (heap.Abstract false ty.Struct) = refl
reference_value false (heap.Abstract false ty.Array) = refl
reference_value false (heap.Abstract false ty.Exn) = refl
reference_value false (heap.Abstract false ty.Cont) = refl
reference_value false (heap.Abstract true ty.NoCont) = refl
reference_value false (heap.Abstract true ty.NoExn) = refl
reference_value false (heap.Abstract true ty.NoFunc) = refl
reference_value false (heap.Abstract true ty.NoExtern) = refl
reference_value false (heap.Abstract true ty.None) = refl
reference_value false (heap.Abstract true ty.Func) = refl
reference_value false (heap.Abstract true ty.Extern) = refl
reference_value false (heap.Abstract true ty.Any) = refl
reference_value false (heap.Abstract true ty.Eq) = refl
reference_value false (heap.Abstract true ty.I31) = refl
reference_value false (heap.Abstract true ty.Struct) = refl
reference_value false (heap.Abstract true ty.Array) = refl
reference_value false (heap.Abstract true ty.Exn) = refl
reference_value false (heap.Abstract true ty.Cont) = refl
reference_value false (heap.Concrete index) = refl
reference_value false (heap.Exact index) = refl
reference_value true (heap.Abstract false ty.NoCont) = refl
reference_value true (heap.Abstract false ty.NoExn) = refl
reference_value true (heap.Abstract false ty.NoFunc) = refl
reference_value true (heap.Abstract false ty.NoExtern) = refl
reference_value true (heap.Abstract false ty.None) = refl
reference_value true (heap.Abstract false ty.Func) = refl
reference_value true (heap.Abstract false ty.Extern) = refl
reference_value true (heap.Abstract false ty.Any) = refl
reference_value true (heap.Abstract false ty.Eq) = refl
reference_value true (heap.Abstract false ty.I31) = refl
reference_value true (heap.Abstract false ty.Struct) = refl
reference_value true (heap.Abstract false ty.Array) = refl
reference_value true (heap.Abstract false ty.Exn) = refl
reference_value true (heap.Abstract false ty.Cont) = refl
reference_value true (heap.Abstract true ty.NoCont) = refl
reference_value true (heap.Abstract true ty.NoExn) = refl
reference_value true (heap.Abstract true ty.NoFunc) = refl
reference_value true (heap.Abstract true ty.NoExtern) = refl
reference_value true (heap.Abstract true ty.None) = refl
reference_value true (heap.Abstract true ty.Func) = refl
reference_value true (heap.Abstract true ty.Extern) = refl
reference_value true (heap.Abstract true ty.Any) = refl
reference_value true (heap.Abstract true ty.Eq) = refl
reference_value true (heap.Abstract true ty.I31) = refl
reference_value true (heap.Abstract true ty.Struct) = refl
reference_value true (heap.Abstract true ty.Array) = refl
reference_value true (heap.Abstract true ty.Exn) = refl
reference_value true (heap.Abstract true ty.Cont) = refl
reference_value true (heap.Concrete index) = refl
reference_value true (heap.Exact index) = refl

value_again : (v : ValType) → value_at (value_kind v) (value_index v) ≡ v
value_again value.I32 = refl
value_again value.I64 = refl
value_again value.F32 = refl
value_again value.F64 = refl
value_again value.V128 = refl
value_again (value.Ref r) = reference_value r.nullable r.heap_type

abbrev block_at : ℕ → ℕ → BlockType
block_at kind index = cond (eqb kind 0) (block.FuncType index) (cond (eqb kind 0x40) block.Empty (block.Value (value_at kind index)))

reference_block : (null : Bool) (h : HeapType) →
    (let b : BlockType = block.Value (value.Ref (record { nullable = null; heap_type = h })) in block_at (block_kind b) (block_index b) ≡ b)
reference_block false (heap.Abstract false ty.NoCont) = refl
reference_block false (heap.Abstract false ty.NoExn) = refl
reference_block false (heap.Abstract false ty.NoFunc) = refl
reference_block false (heap.Abstract false ty.NoExtern) = refl
reference_block false (heap.Abstract false ty.None) = refl
reference_block false (heap.Abstract false ty.Func) = refl
reference_block false (heap.Abstract false ty.Extern) = refl
reference_block false (heap.Abstract false ty.Any) = refl
reference_block false (heap.Abstract false ty.Eq) = refl
reference_block false (heap.Abstract false ty.I31) = refl
reference_block false (heap.Abstract false ty.Struct) = refl
reference_block false (heap.Abstract false ty.Array) = refl
reference_block false (heap.Abstract false ty.Exn) = refl
reference_block false (heap.Abstract false ty.Cont) = refl
reference_block false (heap.Abstract true ty.NoCont) = refl
reference_block false (heap.Abstract true ty.NoExn) = refl
reference_block false (heap.Abstract true ty.NoFunc) = refl
reference_block false (heap.Abstract true ty.NoExtern) = refl
reference_block false (heap.Abstract true ty.None) = refl
reference_block false (heap.Abstract true ty.Func) = refl
reference_block false (heap.Abstract true ty.Extern) = refl
reference_block false (heap.Abstract true ty.Any) = refl
reference_block false (heap.Abstract true ty.Eq) = refl
reference_block false (heap.Abstract true ty.I31) = refl
reference_block false (heap.Abstract true ty.Struct) = refl
reference_block false (heap.Abstract true ty.Array) = refl
reference_block false (heap.Abstract true ty.Exn) = refl
reference_block false (heap.Abstract true ty.Cont) = refl
reference_block false (heap.Concrete index) = refl
reference_block false (heap.Exact index) = refl
reference_block true (heap.Abstract false ty.NoCont) = refl
reference_block true (heap.Abstract false ty.NoExn) = refl
reference_block true (heap.Abstract false ty.NoFunc) = refl
reference_block true (heap.Abstract false ty.NoExtern) = refl
reference_block true (heap.Abstract false ty.None) = refl
reference_block true (heap.Abstract false ty.Func) = refl
reference_block true (heap.Abstract false ty.Extern) = refl
reference_block true (heap.Abstract false ty.Any) = refl
reference_block true (heap.Abstract false ty.Eq) = refl
reference_block true (heap.Abstract false ty.I31) = refl
reference_block true (heap.Abstract false ty.Struct) = refl
reference_block true (heap.Abstract false ty.Array) = refl
reference_block true (heap.Abstract false ty.Exn) = refl
reference_block true (heap.Abstract false ty.Cont) = refl
reference_block true (heap.Abstract true ty.NoCont) = refl
reference_block true (heap.Abstract true ty.NoExn) = refl
reference_block true (heap.Abstract true ty.NoFunc) = refl
reference_block true (heap.Abstract true ty.NoExtern) = refl
reference_block true (heap.Abstract true ty.None) = refl
reference_block true (heap.Abstract true ty.Func) = refl
reference_block true (heap.Abstract true ty.Extern) = refl
reference_block true (heap.Abstract true ty.Any) = refl
reference_block true (heap.Abstract true ty.Eq) = refl
reference_block true (heap.Abstract true ty.I31) = refl
reference_block true (heap.Abstract true ty.Struct) = refl
reference_block true (heap.Abstract true ty.Array) = refl
reference_block true (heap.Abstract true ty.Exn) = refl
reference_block true (heap.Abstract true ty.Cont) = refl
reference_block true (heap.Concrete index) = refl
reference_block true (heap.Exact index) = refl

block_again : (b : BlockType) → block_at (block_kind b) (block_index b) ≡ b
block_again block.Empty = refl
block_again (block.Value value.I32) = refl
block_again (block.Value value.I64) = refl
block_again (block.Value value.F32) = refl
block_again (block.Value value.F64) = refl
block_again (block.Value value.V128) = refl
block_again (block.Value (value.Ref r)) = reference_block r.nullable r.heap_type
block_again (block.FuncType index) = refl

abbrev target_at : ℕ → ℕ → MemArgTarget
target_at number index = cond (eqb number 0) (target.Memory index) (target.Array index)

target_again : (t : MemArgTarget) → target_at (target_number t) (target_index t) ≡ t
target_again (target.Memory index) = refl
target_again (target.Array index) = refl

abbrev order_at : ℕ → Ordering
order_at number = cond (eqb number 1) SeqCst AcqRel

order_again : (o : Ordering) → order_at (order_number o) ≡ o
order_again SeqCst = refl
order_again AcqRel = refl

abbrev ordering_at : ℕ → Option MemArgOrdering
ordering_at number =
    cond (eqb number 0) None (cond (eqb number 1) (Some (ordering.Op SeqCst)) (cond (eqb number 2) (Some (ordering.Op AcqRel))
    (cond (eqb number 3) (Some (ordering.Rmw SeqCst)) (Some (ordering.Rmw AcqRel)))))

ordering_again : (o : Option MemArgOrdering) → ordering_at (ordering_number o) ≡ o
ordering_again None = refl
ordering_again (Some (ordering.Op SeqCst)) = refl
ordering_again (Some (ordering.Op AcqRel)) = refl
ordering_again (Some (ordering.Rmw SeqCst)) = refl
ordering_again (Some (ordering.Rmw AcqRel)) = refl

abbrev argument_at : WasmOperator → MemArg
argument_at v =
    record { align = v.align; max_align = v.max_align; offset = v.wide; target = target_at v.target v.first; ordering = ordering_at v.ordering }

argument_again : (m : MemArg) (t : MemArgTarget) (o : Option MemArgOrdering) → t ≡ m.target → o ≡ m.ordering →
    (let same : MemArg = record { align = m.align; max_align = m.max_align; offset = m.offset; target = t; ordering = o } in same ≡ m)
argument_again m t o target ordering =
    ap (λ (s : MemArgTarget). (let same : MemArg = record { align = m.align; max_align = m.max_align; offset = m.offset; target = s; ordering = o } in same)) target ∙
    ap (λ (s : Option MemArgOrdering). (let same : MemArg = record { align = m.align; max_align = m.max_align; offset = m.offset; target = m.target; ordering = s } in same)) ordering

-- The immediates in the fields of the struct.
abbrev read_back : List Kind → WasmOperator → List Immediate
read_back (is_unsigned_32 ∷ []) v = unsigned_32 v.first ∷ []
read_back (is_memory_index ∷ []) v = memory_index v.first ∷ []
read_back (is_unsigned_32 ∷ is_unsigned_32 ∷ []) v = unsigned_32 v.first ∷ unsigned_32 v.second ∷ []
read_back (is_unsigned_32 ∷ is_table_index ∷ []) v = unsigned_32 v.first ∷ table_index_32 v.second ∷ []
read_back (is_memory_argument k max ∷ []) v = memory_argument k max (argument_at v) ∷ []
read_back (is_memory_argument k max ∷ is_one_lane ∷ []) v = memory_argument k max (argument_at v) ∷ one_lane v.lane ∷ []
read_back (is_one_lane ∷ []) v = one_lane v.lane ∷ []
read_back (is_signed_32 ∷ []) v = signed_32 (cast_signed w64 v.wide) ∷ []
read_back (is_signed_64 ∷ []) v = signed_64 (cast_signed w64 v.wide) ∷ []
read_back (is_float_32 ∷ []) v = float_32 v.wide ∷ []
read_back (is_float_64 ∷ []) v = float_64 v.wide ∷ []
read_back (is_vector ∷ []) v = vector (record { 0 = v.bytes }) ∷ []
read_back (is_sixteen_lanes ∷ []) v = sixteen_lanes v.bytes ∷ []
read_back (is_order ∷ is_unsigned_32 ∷ []) v = order (order_at v.ordering) ∷ unsigned_32 v.first ∷ []
read_back (is_order ∷ is_unsigned_32 ∷ is_unsigned_32 ∷ []) v = order (order_at v.ordering) ∷ unsigned_32 v.first ∷ unsigned_32 v.second ∷ []
read_back (is_fence_order ∷ []) v = fence_order (order_at v.ordering) ∷ []
read_back (is_heap_type ∷ []) v = heap_type (heap_at v.kind v.first) ∷ []
read_back (is_cast ∷ []) v =
    cast (record { relative_depth = v.first; from = reference_at v.kind v.second; to = reference_at v.other_kind v.third }) ∷ []
read_back (is_block_type ∷ []) v = block_type (block_at v.kind v.first) ∷ []
read_back (is_select_types ∷ []) v = select_types (select.One (value_at v.kind v.first)) ∷ []
read_back _ v = []

abbrev pub AreWhole : List Immediate → Type 0
AreWhole [] = Unit {0}
AreWhole (unsigned_32 a ∷ []) = Unit {0}
AreWhole (memory_index a ∷ []) = Unit {0}
AreWhole (unsigned_32 a ∷ unsigned_32 b ∷ []) = Unit {0}
AreWhole (unsigned_32 a ∷ table_index_32 b ∷ []) = Unit {0}
AreWhole (memory_argument k max m ∷ []) = Unit {0}
AreWhole (memory_argument k max m ∷ one_lane lane ∷ []) = Unit {0}
AreWhole (one_lane lane ∷ []) = Unit {0}
AreWhole (signed_32 n ∷ []) = FitsSigned w64 n
AreWhole (signed_64 n ∷ []) = FitsSigned w64 n
AreWhole (float_32 bits ∷ []) = Unit {0}
AreWhole (float_64 bits ∷ []) = Unit {0}
AreWhole (vector v ∷ []) = Unit {0}
AreWhole (sixteen_lanes lanes ∷ []) = Unit {0}
AreWhole (order o ∷ unsigned_32 a ∷ []) = Unit {0}
AreWhole (order o ∷ unsigned_32 a ∷ unsigned_32 b ∷ []) = Unit {0}
AreWhole (fence_order o ∷ []) = Unit {0}
AreWhole (heap_type ty ∷ []) = Unit {0}
AreWhole (cast c ∷ []) = Unit {0}
AreWhole (block_type ty ∷ []) = Unit {0}
AreWhole (select_types (select.One ty) ∷ []) = Unit {0}
AreWhole _ = ⊥

pub read_back_same : (offset opcode : ℕ) (is : List Immediate) → AreWhole is → read_back (map kind_of is) (view offset opcode is) ≡ is
read_back_same offset opcode [] whole = refl
read_back_same offset opcode (unsigned_32 a ∷ []) whole = refl
read_back_same offset opcode (memory_index a ∷ []) whole = refl
read_back_same offset opcode (unsigned_32 a ∷ unsigned_32 b ∷ []) whole = refl
read_back_same offset opcode (unsigned_32 a ∷ table_index_32 b ∷ []) whole = refl
read_back_same offset opcode (memory_argument k max m ∷ []) whole =
    ap (λ (n : MemArg). memory_argument k max n ∷ []) (argument_again m _ _ (target_again m.target) (ordering_again m.ordering))
read_back_same offset opcode (memory_argument k max m ∷ one_lane lane ∷ []) whole =
    ap (λ (n : MemArg). memory_argument k max n ∷ one_lane lane ∷ []) (argument_again m _ _ (target_again m.target) (ordering_again m.ordering))
read_back_same offset opcode (one_lane lane ∷ []) whole = refl
read_back_same offset opcode (signed_32 n ∷ []) whole = ap (λ (z : ℤ). signed_32 z ∷ []) (to_z-of_z w64 n whole)
read_back_same offset opcode (signed_64 n ∷ []) whole = ap (λ (z : ℤ). signed_64 z ∷ []) (to_z-of_z w64 n whole)
read_back_same offset opcode (float_32 bits ∷ []) whole = refl
read_back_same offset opcode (float_64 bits ∷ []) whole = refl
read_back_same offset opcode (vector v ∷ []) whole = refl
read_back_same offset opcode (sixteen_lanes lanes ∷ []) whole = refl
read_back_same offset opcode (order o ∷ unsigned_32 a ∷ []) whole = ap (λ (p : Ordering). order p ∷ unsigned_32 a ∷ []) (order_again o)
read_back_same offset opcode (order o ∷ unsigned_32 a ∷ unsigned_32 b ∷ []) whole =
    ap (λ (p : Ordering). order p ∷ unsigned_32 a ∷ unsigned_32 b ∷ []) (order_again o)
read_back_same offset opcode (fence_order o ∷ []) whole = ap (λ (p : Ordering). fence_order p ∷ []) (order_again o)
read_back_same offset opcode (heap_type ty ∷ []) whole = ap (λ (h : HeapType). heap_type h ∷ []) (heap_again ty)
read_back_same offset opcode (cast c ∷ []) whole =
    ap (λ (r : Reference). cast (record { relative_depth = c.relative_depth; from = r; to = reference_at (reference_kind c.to) (heap_index c.to.heap_type) }) ∷ [])
    (reference_again c.from.nullable c.from.heap_type) ∙
    ap (λ (r : Reference). cast (record { relative_depth = c.relative_depth; from = c.from; to = r }) ∷ []) (reference_again c.to.nullable c.to.heap_type)
read_back_same offset opcode (block_type ty ∷ []) whole = ap (λ (b : BlockType). block_type b ∷ []) (block_again ty)
read_back_same offset opcode (select_types (select.One ty) ∷ []) whole = ap (λ (v : ValType). select_types (select.One v) ∷ []) (value_again ty)
read_back_same offset opcode _ whole = absurd whole

pub same_immediates : (offset opcode at code : ℕ) (is js : List Immediate) → AreWhole is → AreWhole js → map kind_of is ≡ map kind_of js →
    view offset opcode is ≡ view at code js → is ≡ js
same_immediates offset opcode at code is js w x kinds same =
    sym (read_back_same offset opcode is w) ∙ ap (λ ks. read_back ks (view offset opcode is)) kinds ∙ ap (read_back (map kind_of js)) same ∙ read_back_same at code js x

pub view_offset : (offset opcode : ℕ) (is : List Immediate) → (view offset opcode is).offset ≡ offset
view_offset offset opcode [] = refl
view_offset offset opcode (unsigned_32 a ∷ []) = refl
view_offset offset opcode (memory_index a ∷ []) = refl
view_offset offset opcode (unsigned_32 a ∷ unsigned_32 b ∷ []) = refl
view_offset offset opcode (unsigned_32 a ∷ table_index_32 b ∷ []) = refl
view_offset offset opcode (memory_argument k max m ∷ []) = refl
view_offset offset opcode (memory_argument k max m ∷ one_lane lane ∷ []) = refl
view_offset offset opcode (one_lane lane ∷ []) = refl
view_offset offset opcode (signed_32 n ∷ []) = refl
view_offset offset opcode (signed_64 n ∷ []) = refl
view_offset offset opcode (float_32 bits ∷ []) = refl
view_offset offset opcode (float_64 bits ∷ []) = refl
view_offset offset opcode (vector v ∷ []) = refl
view_offset offset opcode (sixteen_lanes lanes ∷ []) = refl
view_offset offset opcode (order o ∷ unsigned_32 a ∷ []) = refl
view_offset offset opcode (order o ∷ unsigned_32 a ∷ unsigned_32 b ∷ []) = refl
view_offset offset opcode (fence_order o ∷ []) = refl
view_offset offset opcode (heap_type ty ∷ []) = refl
view_offset offset opcode (cast c ∷ []) = refl
view_offset offset opcode (block_type ty ∷ []) = refl
view_offset offset opcode (branch_table t ∷ []) = refl
view_offset offset opcode (select_types (select.One ty) ∷ []) = refl
view_offset offset opcode (select_types (select.Multi tys) ∷ []) = refl
view_offset offset opcode (try_clauses t ∷ []) = refl
view_offset offset opcode (unsigned_32 a ∷ resume_clauses t ∷ []) = refl
view_offset offset opcode (unsigned_32 a ∷ unsigned_32 b ∷ resume_clauses t ∷ []) = refl
view_offset offset opcode _ = refl

pub view_opcode : (offset opcode : ℕ) (is : List Immediate) → (view offset opcode is).opcode ≡ opcode
view_opcode offset opcode [] = refl
view_opcode offset opcode (unsigned_32 a ∷ []) = refl
view_opcode offset opcode (memory_index a ∷ []) = refl
view_opcode offset opcode (unsigned_32 a ∷ unsigned_32 b ∷ []) = refl
view_opcode offset opcode (unsigned_32 a ∷ table_index_32 b ∷ []) = refl
view_opcode offset opcode (memory_argument k max m ∷ []) = refl
view_opcode offset opcode (memory_argument k max m ∷ one_lane lane ∷ []) = refl
view_opcode offset opcode (one_lane lane ∷ []) = refl
view_opcode offset opcode (signed_32 n ∷ []) = refl
view_opcode offset opcode (signed_64 n ∷ []) = refl
view_opcode offset opcode (float_32 bits ∷ []) = refl
view_opcode offset opcode (float_64 bits ∷ []) = refl
view_opcode offset opcode (vector v ∷ []) = refl
view_opcode offset opcode (sixteen_lanes lanes ∷ []) = refl
view_opcode offset opcode (order o ∷ unsigned_32 a ∷ []) = refl
view_opcode offset opcode (order o ∷ unsigned_32 a ∷ unsigned_32 b ∷ []) = refl
view_opcode offset opcode (fence_order o ∷ []) = refl
view_opcode offset opcode (heap_type ty ∷ []) = refl
view_opcode offset opcode (cast c ∷ []) = refl
view_opcode offset opcode (block_type ty ∷ []) = refl
view_opcode offset opcode (branch_table t ∷ []) = refl
view_opcode offset opcode (select_types (select.One ty) ∷ []) = refl
view_opcode offset opcode (select_types (select.Multi tys) ∷ []) = refl
view_opcode offset opcode (try_clauses t ∷ []) = refl
view_opcode offset opcode (unsigned_32 a ∷ resume_clauses t ∷ []) = refl
view_opcode offset opcode (unsigned_32 a ∷ unsigned_32 b ∷ resume_clauses t ∷ []) = refl
view_opcode offset opcode _ = refl
