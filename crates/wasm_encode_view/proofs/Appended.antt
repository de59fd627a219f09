-- The bytes of a C struct are the shortest encoding of the immediates that it was made of.
use Rattle.std.proofs.Common.{◌≡◌, ℕ, ℤ, ◌+◌, ◌≤◌, ◌%◌, ◌*◌, inl, inr, Bool, true, false, cond, List, [], ◌∷◌, ◌++◌, Option, Some, None, Result, Ok, refl, sym, ap, subst, ◌∙◌, append_assoc, append-nil, arith, FitsSigned}
use Rattle.std.proofs.Math.Nat.{mod-eq_of_lt}
use Rattle.std.specs.Int.{w32, w64, cast_signed, cast_unsigned, to_le_bytes}
use Rattle.std.proofs.lemmas.Int.{to_z-of_z}
use Rattle.wasm_below.specs.declared.features.WasmFeatures.{WasmFeatures}
use Rattle.wasm_below.specs.declared.types.HeapType.{HeapType}
use Rattle.wasm_below.specs.declared.types.ValType.{ValType}
use Rattle.wasm_below.specs.Features.{multi_memory, call_indirect_overlong}
use Rattle.wasm_below.specs.Number.{EncodesUnsigned, EncodesSigned, EncodesFixed}
use Rattle.wasm_below.specs.Source.{IsByte}
use Rattle.wasm_below.specs.TypeEncoding.{EncodesHeapType}
use Rattle.wasm_below.proofs.Numbers.{unsigned_below}
use Rattle.wasm_below.proofs.SignedNumbers.{signed_fits}
use Rattle.wasm_imm.specs.declared.block_type.BlockType.{BlockType}
use Rattle.wasm_imm.specs.declared.cast.Cast.{Cast}
use Rattle.wasm_imm.specs.declared.memory_argument.MemArg.{MemArg}
use Rattle.wasm_imm.specs.declared.memory_argument.MemArgKind.{MemArgKind}
use Rattle.wasm_imm.specs.declared.memory_argument.MemArgTarget.{MemArgTarget}
use Rattle.wasm_imm.specs.declared.memory_argument.MemArgTarget.TheVariants as target
use Rattle.wasm_imm.specs.declared.memory_argument.MemArgOrdering.{MemArgOrdering}
use Rattle.wasm_imm.specs.declared.memory_argument.MemArgOrdering.TheVariants as ordering
use Rattle.wasm_imm.specs.declared.ordering.Ordering.{Ordering}
use Rattle.wasm_imm.specs.declared.ordering.Ordering.TheVariants.{AcqRel, SeqCst}
use Rattle.wasm_imm.specs.declared.select.Select.TheVariants as select
use Rattle.wasm_imm.specs.BlockTypes.{EncodesBlockType}
use Rattle.wasm_imm.specs.Casts.{EncodesCast, cast_flags}
use Rattle.wasm_imm.specs.HandlerTables.{EncodesSelect}
use Rattle.wasm_imm.specs.Indices.{EncodesIndex}
use Rattle.wasm_imm.specs.MemoryArgument.{EncodesMemArg}
use Rattle.wasm_imm.specs.Orderings.{EncodesOrderingByte, EncodesFence}
use Rattle.wasm_imm.specs.Vectors.{EncodesSixteen, EncodesVector}
use Rattle.wasm_imm.specs.Immediate.{Immediate, unsigned_32, signed_32, signed_64, float_32, float_64, vector, one_lane, sixteen_lanes, memory_argument, memory_index, table_index_32, order, fence_order, heap_type, cast, block_type, select_types, EncodesImmediate, EncodesImmediates}
use Rattle.wasm_encode_numbers.specs.Appended.{Appends}
use Rattle.wasm_encode_numbers.specs.Shortest.{unsigned_bytes, signed_bytes}
use Rattle.wasm_encode_numbers.proofs.Written.{short_unsigned, unsigned_written, signed_written}
use Rattle.wasm_encode_immediates.specs.declared.unwritable.Unwritable.{Unwritable}
use Rattle.wasm_encode_immediates.specs.MemoryBytes as typed
use Rattle.wasm_encode_immediates.specs.TypeBytes.{heap_type_bytes, value_type_bytes, FitsValType}
use Rattle.wasm_encode_immediates.specs.TypeBytes as types
use Rattle.wasm_encode_immediates.proofs.ListTexts.{one_type_appended}
use Rattle.wasm_encode_immediates.proofs.MemoryArguments.{argument_written}
use Rattle.wasm_encode_immediates.proofs.Sequences.{then_written, nothing_appended, one_appended}
use Rattle.wasm_encode_immediates.proofs.ShortTexts.{fixed_written, byte_written, sixteen_written, order_written, vector_written, index_written, zero_written, fence_written, plain_fence}
use Rattle.wasm_encode_immediates.proofs.TypeTexts.{heap_written, value_written, block_written, cast_written}
use Rattle.wasm_view.specs.Numbers.{target_number, target_index, order_number, ordering_number, reference_kind, value_kind, value_index, block_kind, block_index, heap_kind, heap_index}
use Rattle.wasm_view.specs.View.{view}
use Rattle.wasm_view.proofs.Immediates.{AreWhole}
use Rattle.wasm_encode_view.specs.Bytes.{heap_bytes, block_bytes, immediate_bytes, order_byte, target_flag, target_bytes, ordering_flag, ordering_bytes, cast_bytes, null_flag, float_bytes, value_bytes}
use Rattle.wasm_encode_view.proofs.Fits.{heap_fits, value_fits, block_fits, argument_fits}
use Rattle.wasm_encode_view.proofs.SameTypes.{heap_same, heap_of_reference, null_same, value_same, block_same}

-- The immediates encoded as these bytes, after what was there.
abbrev Adds : WasmFeatures → List Immediate → List ℕ → Type 0
Adds f is bytes = (old : List ℕ) → Appends (EncodesImmediates f) is old (old ++ bytes)

-- Bytes that are equal.
same_bytes : (f : WasmFeatures) (is : List Immediate) (a b : List ℕ) → a ≡ b → Adds f is b → Adds f is a
same_bytes f is a b e h = subst (Adds f is) (sym e) h

abbrev done : Result (Unit {0}) Unwritable
done = Ok tt

adds_both : (f : WasmFeatures) (is js : List Immediate) (a b : List ℕ) → Adds f is a → Adds f js b → Adds f (is ++ js) (a ++ b)
adds_both f is js a b x y old =
    subst (λ new. Appends (EncodesImmediates f) (is ++ js) old new) (append_assoc old a b)
    (then_written f is js done old (old ++ a) ((old ++ a) ++ b) (x old) (y (old ++ a)))

adds_one : {X : Type 0} (P : List ℕ → X → Type 0) (f : WasmFeatures) (x : X) (i : Immediate) (bytes : List ℕ) → ((t : List ℕ) → P t x → EncodesImmediate f t i) →
    ((t : List ℕ) → EncodesImmediate f t i → P t x) → ((old : List ℕ) → Appends P x old (old ++ bytes)) → Adds f (i ∷ []) bytes
adds_one P f x i bytes to from a old = one_appended P f x i old (old ++ bytes) to from (a old)

-- ---- one immediate

adds_unsigned : (f : WasmFeatures) (n : ℕ) (text : List ℕ) → EncodesUnsigned 32 text n → Adds f (unsigned_32 n ∷ []) (unsigned_bytes n)
adds_unsigned f n text p =
    adds_one (EncodesUnsigned 32) f n (unsigned_32 n) (unsigned_bytes n) (λ t q. q) (λ t q. q)
    (λ old. unsigned_written 32 n old (old ++ unsigned_bytes n) (omega arith) (unsigned_below text 32 n p) refl)

index_appended : (feature f : WasmFeatures) (n : ℕ) (text old : List ℕ) → EncodesIndex feature f text n → Appends (EncodesIndex feature f) n old (old ++ unsigned_bytes n)
index_appended feature f n text old (inl (on, p)) =
    index_written feature f n old (old ++ unsigned_bytes n) on (unsigned_written 32 n old (old ++ unsigned_bytes n) (omega arith) (unsigned_below text 32 n p) refl)
index_appended feature f n text old (inr (off, e, z)) =
    zero_written feature f n old (old ++ unsigned_bytes n) off z (ap (λ k. old ++ unsigned_bytes k) z ∙ ap (λ t. old ++ t) (short_unsigned 0 (omega arith)))

adds_memory_index : (f : WasmFeatures) (n : ℕ) (text : List ℕ) → EncodesIndex multi_memory f text n → Adds f (memory_index n ∷ []) (unsigned_bytes n)
adds_memory_index f n text p =
    adds_one (EncodesIndex multi_memory f) f n (memory_index n) (unsigned_bytes n) (λ t q. q) (λ t q. q) (λ old. index_appended multi_memory f n text old p)

adds_table_index : (f : WasmFeatures) (n : ℕ) (text : List ℕ) → EncodesIndex call_indirect_overlong f text n → Adds f (table_index_32 n ∷ []) (unsigned_bytes n)
adds_table_index f n text p =
    adds_one (EncodesIndex call_indirect_overlong f) f n (table_index_32 n) (unsigned_bytes n) (λ t q. q) (λ t q. q) (λ old. index_appended call_indirect_overlong f n text old p)

adds_lane : (f : WasmFeatures) (n : ℕ) (text : List ℕ) → IsByte text n → Adds f (one_lane n ∷ []) (n ∷ [])
adds_lane f n text p = adds_one IsByte f n (one_lane n) (n ∷ []) (λ t q. q) (λ t q. q) (λ old. byte_written n old (old ++ n ∷ []) p.1 refl)

signed_again : (n : ℤ) → FitsSigned w64 n → signed_bytes (cast_signed w64 (cast_unsigned w64 n)) ≡ signed_bytes n
signed_again n fits = ap signed_bytes (to_z-of_z w64 n fits)

adds_signed_32 : (f : WasmFeatures) (n : ℤ) (text : List ℕ) → FitsSigned w64 n → EncodesSigned 32 text n → Adds f (signed_32 n ∷ []) (signed_bytes (cast_signed w64 (cast_unsigned w64 n)))
adds_signed_32 f n text fits p =
    same_bytes f (signed_32 n ∷ []) _ (signed_bytes n) (signed_again n fits)
    (adds_one (EncodesSigned 32) f n (signed_32 n) (signed_bytes n) (λ t q. q) (λ t q. q)
    (λ old. signed_written 32 n old (old ++ signed_bytes n) (omega arith) (omega arith) (signed_fits text 32 n p) refl))

adds_signed_64 : (f : WasmFeatures) (n : ℤ) (text : List ℕ) → FitsSigned w64 n → EncodesSigned 64 text n → Adds f (signed_64 n ∷ []) (signed_bytes (cast_signed w64 (cast_unsigned w64 n)))
adds_signed_64 f n text fits p =
    same_bytes f (signed_64 n ∷ []) _ (signed_bytes n) (signed_again n fits)
    (adds_one (EncodesSigned 64) f n (signed_64 n) (signed_bytes n) (λ t q. q) (λ t q. q)
    (λ old. signed_written 64 n old (old ++ signed_bytes n) (omega arith) (omega arith) (signed_fits text 64 n p) refl))

adds_float_32 : (f : WasmFeatures) (n : ℕ) (text : List ℕ) → EncodesFixed w32 text n → Adds f (float_32 n ∷ []) (float_bytes n)
adds_float_32 f n text p =
    same_bytes f (float_32 n ∷ []) (float_bytes n) (to_le_bytes w32 n) (ap (to_le_bytes w32) (mod-eq_of_lt p.1))
    (adds_one (EncodesFixed w32) f n (float_32 n) (to_le_bytes w32 n) (λ t q. q) (λ t q. q) (λ old. fixed_written w32 n (to_le_bytes w32 n) old (old ++ to_le_bytes w32 n) p.1 refl refl))

adds_float_64 : (f : WasmFeatures) (n : ℕ) (text : List ℕ) → EncodesFixed w64 text n → Adds f (float_64 n ∷ []) (to_le_bytes w64 n)
adds_float_64 f n text p =
    adds_one (EncodesFixed w64) f n (float_64 n) (to_le_bytes w64 n) (λ t q. q) (λ t q. q) (λ old. fixed_written w64 n (to_le_bytes w64 n) old (old ++ to_le_bytes w64 n) p.1 refl refl)

adds_order : (f : WasmFeatures) (o : Ordering) → Adds f (order o ∷ []) (order_byte (order_number o) ∷ [])
adds_order f SeqCst = adds_one EncodesOrderingByte f SeqCst (order SeqCst) (0 ∷ []) (λ t q. q) (λ t q. q) (λ old. order_written SeqCst old (old ++ 0 ∷ []) refl)
adds_order f AcqRel = adds_one EncodesOrderingByte f AcqRel (order AcqRel) (1 ∷ []) (λ t q. q) (λ t q. q) (λ old. order_written AcqRel old (old ++ 1 ∷ []) refl)

fence_appended : (f : WasmFeatures) (o : Ordering) (text old : List ℕ) → EncodesFence f text o → Appends (EncodesFence f) o old (old ++ order_byte (order_number o) ∷ [])
fence_appended f SeqCst text old (inl (on, e)) = fence_written f SeqCst old (old ++ 0 ∷ []) on refl
fence_appended f AcqRel text old (inl (on, e)) = fence_written f AcqRel old (old ++ 1 ∷ []) on refl
fence_appended f SeqCst text old (inr (off, e, is)) = plain_fence f SeqCst old (old ++ 0 ∷ []) off is refl
fence_appended f AcqRel text old (inr (off, e, is)) = absurd (cc is)

adds_fence : (f : WasmFeatures) (o : Ordering) (text : List ℕ) → EncodesFence f text o → Adds f (fence_order o ∷ []) (order_byte (order_number o) ∷ [])
adds_fence f o text p = adds_one (EncodesFence f) f o (fence_order o) _ (λ t q. q) (λ t q. q) (λ old. fence_appended f o text old p)

-- ---- memory arguments

target_flags : (t : MemArgTarget) → target_flag (target_number t) (target_index t) ≡ typed.target_part t
target_flags (target.Memory i) = refl
target_flags (target.Array i) = refl

target_texts : (t : MemArgTarget) → target_bytes (target_number t) (target_index t) ≡ typed.target_bytes t
target_texts (target.Memory i) = refl
target_texts (target.Array i) = refl

ordering_flags : (o : Option MemArgOrdering) → ordering_flag (ordering_number o) ≡ typed.ordering_part o
ordering_flags None = refl
ordering_flags (Some (ordering.Op SeqCst)) = refl
ordering_flags (Some (ordering.Op AcqRel)) = refl
ordering_flags (Some (ordering.Rmw SeqCst)) = refl
ordering_flags (Some (ordering.Rmw AcqRel)) = refl

ordering_texts : (o : Option MemArgOrdering) → ordering_bytes (ordering_number o) ≡ typed.ordering_bytes o
ordering_texts None = refl
ordering_texts (Some (ordering.Op SeqCst)) = refl
ordering_texts (Some (ordering.Op AcqRel)) = refl
ordering_texts (Some (ordering.Rmw SeqCst)) = refl
ordering_texts (Some (ordering.Rmw AcqRel)) = refl

abbrev argument_bytes : MemArg → List ℕ
argument_bytes m =
    (m.align % 16 + (ordering_flag (ordering_number m.ordering) + target_flag (target_number m.target) (target_index m.target))) ∷
    (target_bytes (target_number m.target) (target_index m.target) ++ (ordering_bytes (ordering_number m.ordering) ++ unsigned_bytes m.offset))

argument_same : (m : MemArg) → m.align ≤ 15 → argument_bytes m ≡ typed.memory_argument_bytes m
argument_same m small =
    let low : m.align % 16 ≡ m.align = mod-eq_of_lt (omega (arith, small)) in
    let o = ordering_flags m.ordering in
    let t = target_flags m.target in
    let flags : m.align % 16 + (ordering_flag (ordering_number m.ordering) + target_flag (target_number m.target) (target_index m.target)) ≡
    m.align + typed.ordering_part m.ordering + typed.target_part m.target = omega (arith, low, o, t) in
    ap (λ n. n ∷ (target_bytes (target_number m.target) (target_index m.target) ++ (ordering_bytes (ordering_number m.ordering) ++ unsigned_bytes m.offset))) flags ∙
    ap (λ t. (m.align + typed.ordering_part m.ordering + typed.target_part m.target) ∷ (t ++ (ordering_bytes (ordering_number m.ordering) ++ unsigned_bytes m.offset))) (target_texts m.target) ∙
    ap (λ o. (m.align + typed.ordering_part m.ordering + typed.target_part m.target) ∷ (typed.target_bytes m.target ++ (o ++ unsigned_bytes m.offset))) (ordering_texts m.ordering)

adds_argument : (f : WasmFeatures) (k : MemArgKind) (max : ℕ) (m : MemArg) (text : List ℕ) → EncodesMemArg f k max text m → Adds f (memory_argument k max m ∷ []) (argument_bytes m)
adds_argument f k max m text p =
    let w = argument_fits f k max m text p in
    same_bytes f (memory_argument k max m ∷ []) (argument_bytes m) (typed.memory_argument_bytes m) (argument_same m w.align)
    (adds_one (EncodesMemArg f k max) f m (memory_argument k max m) (typed.memory_argument_bytes m) (λ t q. q) (λ t q. q)
    (λ old. argument_written f k max m old (old ++ typed.memory_argument_bytes m) w refl))

-- ---- types

flags_same : (from to : Bool) → cond from 1 0 + 2 * cond to 1 0 ≡ cast_flags from to
flags_same false false = refl
flags_same true false = refl
flags_same false true = refl
flags_same true true = refl

cast_same : (c : Cast) →
    cast_bytes c.relative_depth (reference_kind c.from) (heap_index c.from.heap_type) (reference_kind c.to) (heap_index c.to.heap_type) ≡ types.cast_bytes c
cast_same c =
    let a = null_same c.from.nullable c.from.heap_type in
    let b = null_same c.to.nullable c.to.heap_type in
    let x = heap_of_reference c.from.nullable c.from.heap_type in
    let y = heap_of_reference c.to.nullable c.to.heap_type in
    let flags = ap (λ n. n + 2 * null_flag (reference_kind c.to)) a ∙ ap (λ n. cond c.from.nullable 1 0 + 2 * n) b ∙ flags_same c.from.nullable c.to.nullable in
    ap (λ n. n ∷ (unsigned_bytes c.relative_depth ++ (heap_bytes (reference_kind c.from % 512) (heap_index c.from.heap_type) ++ heap_bytes (reference_kind c.to % 512) (heap_index c.to.heap_type)))) flags ∙
    ap (λ t. cast_flags c.from.nullable c.to.nullable ∷ (unsigned_bytes c.relative_depth ++ (t ++ heap_bytes (reference_kind c.to % 512) (heap_index c.to.heap_type)))) x ∙
    ap (λ t. cast_flags c.from.nullable c.to.nullable ∷ (unsigned_bytes c.relative_depth ++ (heap_type_bytes c.from.heap_type ++ t))) y

adds_cast : (f : WasmFeatures) (c : Cast) (text : List ℕ) → EncodesCast text c →
    Adds f (cast c ∷ []) (cast_bytes c.relative_depth (reference_kind c.from) (heap_index c.from.heap_type) (reference_kind c.to) (heap_index c.to.heap_type))
adds_cast f c text (label, first, second, e, l, p, q) =
    same_bytes f (cast c ∷ []) _ (types.cast_bytes c) (cast_same c)
    (adds_one EncodesCast f c (cast c) (types.cast_bytes c) (λ t q. q) (λ t q. q)
    (λ old. cast_written c old (old ++ types.cast_bytes c) (unsigned_below label 32 c.relative_depth l) (heap_fits c.from.heap_type first p) (heap_fits c.to.heap_type second q) refl))

adds_heap : (f : WasmFeatures) (t : HeapType) (text : List ℕ) → EncodesHeapType text t → Adds f (heap_type t ∷ []) (heap_bytes (heap_kind t) (heap_index t))
adds_heap f t text p =
    same_bytes f (heap_type t ∷ []) _ (heap_type_bytes t) (heap_same t)
    (adds_one EncodesHeapType f t (heap_type t) (heap_type_bytes t) (λ t q. q) (λ t q. q) (λ old. heap_written t old (old ++ heap_type_bytes t) (heap_fits t text p) refl))

adds_block : (f : WasmFeatures) (t : BlockType) (text : List ℕ) → EncodesBlockType text t → Adds f (block_type t ∷ []) (block_bytes (block_kind t) (block_index t))
adds_block f t text p =
    same_bytes f (block_type t ∷ []) _ (types.block_type_bytes t) (block_same t)
    (adds_one EncodesBlockType f t (block_type t) (types.block_type_bytes t) (λ t q. q) (λ t q. q) (λ old. block_written t old (old ++ types.block_type_bytes t) (block_fits t text p) refl))

one_type : (ty : ValType) (text : List ℕ) → EncodesSelect text (select.One ty) → FitsValType ty
one_type ty text (first, rest, n, e, size, (same, (a, b, parts, p, none))) = value_fits ty a p

adds_select : (f : WasmFeatures) (ty : ValType) (text : List ℕ) → EncodesSelect text (select.One ty) → Adds f (select_types (select.One ty) ∷ []) (1 ∷ value_bytes (value_kind ty) (value_index ty))
adds_select f ty text p =
    same_bytes f (select_types (select.One ty) ∷ []) _ (1 ∷ value_type_bytes ty) (ap (λ t. 1 ∷ t) (value_same ty))
    (λ old. subst (λ new. Appends (EncodesImmediates f) (select_types (select.One ty) ∷ []) old new) (append_assoc old (1 ∷ []) (value_type_bytes ty))
    (one_type_appended f ty old (old ++ 1 ∷ []) ((old ++ 1 ∷ []) ++ value_type_bytes ty)
    (unsigned_written 32 1 old (old ++ 1 ∷ []) (omega arith) (omega arith) (ap (λ t. old ++ t) (sym (short_unsigned 1 (omega arith)))))
    (value_written ty (old ++ 1 ∷ []) ((old ++ 1 ∷ []) ++ value_type_bytes ty) (one_type ty text p) refl)))

-- ---- the immediates of a C struct

pub adds_immediates : (f : WasmFeatures) (offset opcode : ℕ) (is : List Immediate) (text : List ℕ) → AreWhole is → EncodesImmediates f text is → Adds f is (immediate_bytes (view offset opcode is))
adds_immediates f offset opcode [] text w p = λ old. subst (λ new. Appends (EncodesImmediates f) [] old new) (sym (append-nil old)) (nothing_appended f old)
adds_immediates f offset opcode (unsigned_32 a ∷ []) text w (first, more, e, p, rest) = adds_unsigned f a first p
adds_immediates f offset opcode (memory_index a ∷ []) text w (first, more, e, p, rest) = adds_memory_index f a first p
adds_immediates f offset opcode (unsigned_32 a ∷ unsigned_32 b ∷ []) text w (first, more, e, p, (second, none, g, q, rest)) =
    adds_both f (unsigned_32 a ∷ []) (unsigned_32 b ∷ []) (unsigned_bytes a) (unsigned_bytes b) (adds_unsigned f a first p) (adds_unsigned f b second q)
adds_immediates f offset opcode (unsigned_32 a ∷ table_index_32 b ∷ []) text w (first, more, e, p, (second, none, g, q, rest)) =
    adds_both f (unsigned_32 a ∷ []) (table_index_32 b ∷ []) (unsigned_bytes a) (unsigned_bytes b) (adds_unsigned f a first p) (adds_table_index f b second q)
adds_immediates f offset opcode (memory_argument k max m ∷ []) text w (first, more, e, p, rest) = adds_argument f k max m first p
adds_immediates f offset opcode (memory_argument k max m ∷ one_lane lane ∷ []) text w (first, more, e, p, (second, none, g, q, rest)) =
    adds_both f (memory_argument k max m ∷ []) (one_lane lane ∷ []) (argument_bytes m) (lane ∷ []) (adds_argument f k max m first p) (adds_lane f lane second q)
adds_immediates f offset opcode (one_lane lane ∷ []) text w (first, more, e, p, rest) = adds_lane f lane first p
adds_immediates f offset opcode (signed_32 n ∷ []) text w (first, more, e, p, rest) = adds_signed_32 f n first w p
adds_immediates f offset opcode (signed_64 n ∷ []) text w (first, more, e, p, rest) = adds_signed_64 f n first w p
adds_immediates f offset opcode (float_32 bits ∷ []) text w (first, more, e, p, rest) = adds_float_32 f bits first p
adds_immediates f offset opcode (float_64 bits ∷ []) text w (first, more, e, p, rest) = adds_float_64 f bits first p
adds_immediates f offset opcode (vector v ∷ []) text w (first, more, e, p, rest) =
    adds_one EncodesVector f v (vector v) v.0 (λ t q. q) (λ t q. q) (λ old. vector_written v old (old ++ v.0) p.1 refl)
adds_immediates f offset opcode (sixteen_lanes lanes ∷ []) text w (first, more, e, p, rest) =
    adds_one EncodesSixteen f lanes (sixteen_lanes lanes) lanes (λ t q. q) (λ t q. q) (λ old. sixteen_written lanes old (old ++ lanes) p.1 refl)
adds_immediates f offset opcode (order o ∷ unsigned_32 a ∷ []) text w (first, more, e, p, (second, none, g, q, rest)) =
    adds_both f (order o ∷ []) (unsigned_32 a ∷ []) (order_byte (order_number o) ∷ []) (unsigned_bytes a) (adds_order f o) (adds_unsigned f a second q)
adds_immediates f offset opcode (order o ∷ unsigned_32 a ∷ unsigned_32 b ∷ []) text w (first, more, e, p, (second, then, g, q, (third, none, h, r, rest))) =
    adds_both f (order o ∷ []) (unsigned_32 a ∷ unsigned_32 b ∷ []) (order_byte (order_number o) ∷ []) (unsigned_bytes a ++ unsigned_bytes b) (adds_order f o)
    (adds_both f (unsigned_32 a ∷ []) (unsigned_32 b ∷ []) (unsigned_bytes a) (unsigned_bytes b) (adds_unsigned f a second q) (adds_unsigned f b third r))
adds_immediates f offset opcode (fence_order o ∷ []) text w (first, more, e, p, rest) = adds_fence f o first p
adds_immediates f offset opcode (heap_type ty ∷ []) text w (first, more, e, p, rest) = adds_heap f ty first p
adds_immediates f offset opcode (cast c ∷ []) text w (first, more, e, p, rest) = adds_cast f c first p
adds_immediates f offset opcode (block_type ty ∷ []) text w (first, more, e, p, rest) = adds_block f ty first p
adds_immediates f offset opcode (select_types (select.One ty) ∷ []) text w (first, more, e, p, rest) = adds_select f ty first p
adds_immediates f offset opcode _ text w p = absurd w
