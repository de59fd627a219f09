-- The bytes of types are their shortest encodings.
use Rattle.std.proofs.Common.{◌≡◌, ℕ, suc, ◌<◌, ◌≤◌, ◌^◌, Bool, true, false, List, [], ◌∷◌, ◌++◌, length, pos, inl, inr, refl, sym, ap, arith, length-append, append-nil}
use Rattle.std.proofs.lemmas.Int.{ints}
use Rattle.wasm_below.specs.Number.{FitsWidth}
use Rattle.wasm_below.specs.declared.types.HeapType.{HeapType}
use Rattle.wasm_below.specs.declared.types.HeapType.TheVariants as heap
use Rattle.wasm_below.specs.declared.types.ValType.{ValType}
use Rattle.wasm_below.specs.declared.types.ValType.TheVariants as value
use Rattle.wasm_below.specs.Reference.{FitsRefType}
use Rattle.wasm_below.specs.TypeEncoding.{ref_byte, EncodesHeapType, EncodesRefType, EncodesValType}
use Rattle.wasm_imm.specs.declared.block_type.BlockType.{BlockType}
use Rattle.wasm_imm.specs.declared.block_type.BlockType.TheVariants as block
use Rattle.wasm_imm.specs.declared.cast.Cast.{Cast}
use Rattle.wasm_imm.specs.BlockTypes.{EncodesBlockType}
use Rattle.wasm_imm.specs.Casts.{EncodesCast}
use Rattle.wasm_encode_numbers.specs.Appended.{Appends}
use Rattle.wasm_encode_numbers.specs.Shortest.{unsigned_bytes}
use Rattle.wasm_encode_numbers.proofs.Written.{unsigned_encodes, unsigned_shortest}
use Rattle.wasm_encode_numbers.proofs.Signed.{signed_encodes, signed_shortest}
use Rattle.wasm_encode_immediates.specs.declared.unwritable.Unwritable.TheVariants as why
use Rattle.wasm_encode_immediates.specs.Reasons.{HasHeapReason}
use Rattle.wasm_encode_immediates.specs.Written.{FailsToWrite}
use Rattle.wasm_encode_immediates.specs.TypeBytes.{heap_type_bytes, reference_bytes, value_type_bytes, block_type_bytes, cast_bytes, FitsValType, FitsBlockType}

-- No encoding of the value is shorter.
abbrev pub IsShortestOf : {X : Type 0} → (List ℕ → X → Type 0) → List ℕ → X → Type 0
IsShortestOf Encodes text x = (other : List ℕ) → Encodes other x → length text ≤ length other

index_fits : (n : ℕ) → n ≤ 1048575 → FitsWidth 33 (pos n)
index_fits n le = (omega (arith, ints), omega (arith, ints))

pub heap_encodes : (t : HeapType) → FitsRefType t → EncodesHeapType (heap_type_bytes t) t
heap_encodes (heap.Abstract false ty) i = refl
heap_encodes (heap.Abstract true ty) i = refl
heap_encodes (heap.Concrete index) i = (signed_encodes 33 (pos index) (omega arith) (omega arith) (index_fits index i), i)
heap_encodes (heap.Exact index) i = (unsigned_bytes index, refl, unsigned_encodes 32 index (omega arith) (omega (arith, i)), i)

pub heap_short : (t : HeapType) → IsShortestOf EncodesHeapType (heap_type_bytes t) t
heap_short (heap.Abstract false ty) other p = let e = ap length p in omega (arith, e)
heap_short (heap.Abstract true ty) other p = let e = ap length p in omega (arith, e)
heap_short (heap.Concrete index) other p = signed_shortest (pos index) 33 other p.0
heap_short (heap.Exact index) other (after, e, p, i) =
    let a = ap length e in
    let b = unsigned_shortest index 32 after p in
    omega (arith, a, b)

in_full : (nullable : Bool) (t : HeapType) → FitsRefType t → EncodesRefType (ref_byte nullable ∷ heap_type_bytes t) (record { nullable = nullable; heap_type = t })
in_full nullable t i = inr (heap_type_bytes t, refl, heap_encodes t i)

pub reference_encodes : (nullable : Bool) (t : HeapType) → FitsRefType t → EncodesRefType (reference_bytes nullable t) (record { nullable = nullable; heap_type = t })
reference_encodes true (heap.Abstract false ty) i = inl (refl, refl)
reference_encodes true (heap.Abstract true ty) i = inl (refl, refl)
reference_encodes true (heap.Concrete index) i = in_full true (heap.Concrete index) i
reference_encodes true (heap.Exact index) i = in_full true (heap.Exact index) i
reference_encodes false (heap.Abstract shared ty) i = in_full false (heap.Abstract shared ty) i
reference_encodes false (heap.Concrete index) i = in_full false (heap.Concrete index) i
reference_encodes false (heap.Exact index) i = in_full false (heap.Exact index) i

long_short : (nullable : Bool) (t : HeapType) (other after : List ℕ) → other ≡ ref_byte nullable ∷ after → EncodesHeapType after t →
    suc (length (heap_type_bytes t)) ≤ length other
long_short nullable t other after e p =
    let a = ap length e in
    let b = heap_short t after p in
    omega (arith, a, b)

pub reference_short : (nullable : Bool) (t : HeapType) → IsShortestOf EncodesRefType (reference_bytes nullable t) (record { nullable = nullable; heap_type = t })
reference_short true (heap.Abstract false ty) other (inl p) = let e = ap length p.1 in omega (arith, e)
reference_short true (heap.Abstract true ty) other (inl p) = let e = ap length p.1 in omega (arith, e)
reference_short true (heap.Abstract false ty) other (inr (after, e, p)) = let a = long_short true (heap.Abstract false ty) other after e p in omega (arith, a)
reference_short true (heap.Abstract true ty) other (inr (after, e, p)) = let a = long_short true (heap.Abstract true ty) other after e p in omega (arith, a)
reference_short true (heap.Concrete index) other (inl p) = absurd p.1
reference_short true (heap.Exact index) other (inl p) = absurd p.1
reference_short false t other (inl p) = absurd (cc p.0)
reference_short true (heap.Concrete index) other (inr (after, e, p)) = long_short true (heap.Concrete index) other after e p
reference_short true (heap.Exact index) other (inr (after, e, p)) = long_short true (heap.Exact index) other after e p
reference_short false (heap.Abstract shared ty) other (inr (after, e, p)) = long_short false (heap.Abstract shared ty) other after e p
reference_short false (heap.Concrete index) other (inr (after, e, p)) = long_short false (heap.Concrete index) other after e p
reference_short false (heap.Exact index) other (inr (after, e, p)) = long_short false (heap.Exact index) other after e p

pub value_short : (t : ValType) → IsShortestOf EncodesValType (value_type_bytes t) t
value_short value.I32 other p = let e = ap length p in omega (arith, e)
value_short value.I64 other p = let e = ap length p in omega (arith, e)
value_short value.F32 other p = let e = ap length p in omega (arith, e)
value_short value.F64 other p = let e = ap length p in omega (arith, e)
value_short value.V128 other p = let e = ap length p in omega (arith, e)
value_short (value.Ref r) other p = reference_short r.nullable r.heap_type other p

pub value_encodes : (t : ValType) → FitsValType t → EncodesValType (value_type_bytes t) t
value_encodes value.I32 i = refl
value_encodes value.I64 i = refl
value_encodes value.F32 i = refl
value_encodes value.F64 i = refl
value_encodes value.V128 i = refl
value_encodes (value.Ref r) i = reference_encodes r.nullable r.heap_type i

pub block_encodes : (t : BlockType) → FitsBlockType t → EncodesBlockType (block_type_bytes t) t
block_encodes block.Empty h = refl
block_encodes (block.Value ty) h = value_encodes ty h
block_encodes (block.FuncType index) lt =
    signed_encodes 33 (pos index) (omega arith) (omega arith) (omega (arith, ints, lt), omega (arith, ints, lt))

pub block_short : (t : BlockType) → IsShortestOf EncodesBlockType (block_type_bytes t) t
block_short block.Empty other p = let e = ap length p in omega (arith, e)
block_short (block.Value ty) other p = value_short ty other p
block_short (block.FuncType index) other p = signed_shortest (pos index) 33 other p

pub cast_encodes : (c : Cast) → c.relative_depth < 2 ^ 32 → FitsRefType c.from.heap_type → FitsRefType c.to.heap_type → EncodesCast (cast_bytes c) c
cast_encodes c lt from to = (
  unsigned_bytes c.relative_depth,
  heap_type_bytes c.from.heap_type,
  heap_type_bytes c.to.heap_type,
  refl,
  unsigned_encodes 32 c.relative_depth (omega arith) lt,
  heap_encodes c.from.heap_type from,
  heap_encodes c.to.heap_type to,
)

pub cast_short : (c : Cast) → IsShortestOf EncodesCast (cast_bytes c) c
cast_short c other (label, first, second, e, l, p, q) =
    let a = ap length e in
    let b = length-append label (first ++ second) in
    let d = length-append first second in
    let x = unsigned_shortest c.relative_depth 32 label l in
    let y = heap_short c.from.heap_type first p in
    let z = heap_short c.to.heap_type second q in
    let m = length-append (unsigned_bytes c.relative_depth) (heap_type_bytes c.from.heap_type ++ heap_type_bytes c.to.heap_type) in
    let n = length-append (heap_type_bytes c.from.heap_type) (heap_type_bytes c.to.heap_type) in
    omega (arith, a, b, d, x, y, z, m, n)

-- ---- what was written

pub heap_written : (t : HeapType) (old new : List ℕ) → FitsRefType t → new ≡ old ++ heap_type_bytes t → Appends EncodesHeapType t old new
heap_written t old new i e = record { text = heap_type_bytes t; appended = e; encodes = heap_encodes t i; shortest = heap_short t }

pub value_written : (t : ValType) (old new : List ℕ) → FitsValType t → new ≡ old ++ value_type_bytes t → Appends EncodesValType t old new
value_written t old new i e = record { text = value_type_bytes t; appended = e; encodes = value_encodes t i; shortest = value_short t }

pub block_written : (t : BlockType) (old new : List ℕ) → FitsBlockType t → new ≡ old ++ block_type_bytes t → Appends EncodesBlockType t old new
block_written t old new i e = record { text = block_type_bytes t; appended = e; encodes = block_encodes t i; shortest = block_short t }

pub cast_written : (t : Cast) (old new : List ℕ) → t.relative_depth < 2 ^ 32 → FitsRefType t.from.heap_type → FitsRefType t.to.heap_type → new ≡ old ++ cast_bytes t → Appends EncodesCast t old new
cast_written t old new lt i j e = record { text = cast_bytes t; appended = e; encodes = cast_encodes t lt i j; shortest = cast_short t }

heap_not : (t : HeapType) → ¬ FitsRefType t → (text : List ℕ) → EncodesHeapType text t → ⊥
heap_not (heap.Abstract shared ty) not text p = not tt
heap_not (heap.Concrete index) not text p = not p.1
heap_not (heap.Exact index) not text (after, e, n, i) = not i

pub heap_fails : (t : HeapType) (old : List ℕ) → ¬ FitsRefType t → FailsToWrite EncodesHeapType HasHeapReason t why.TypeIndex old old
heap_fails t old not = record { part = []; appended = sym (append-nil old); none = λ some. heap_not t not; reason = (refl, not) }
