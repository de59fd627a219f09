-- What has an encoding is within the limits.
use Rattle.std.proofs.Common.{ℕ, ◌<◌, ◌^◌, ◌⊎◌, inl, inr, List, Option, Some, None, pos, arith}
use Rattle.std.proofs.lemmas.Int.{ints}
use Rattle.wasm_below.specs.declared.features.WasmFeatures.{WasmFeatures}
use Rattle.wasm_below.specs.declared.types.HeapType.{HeapType}
use Rattle.wasm_below.specs.declared.types.HeapType.TheVariants as heap
use Rattle.wasm_below.specs.declared.types.ValType.{ValType}
use Rattle.wasm_below.specs.declared.types.ValType.TheVariants as value
use Rattle.wasm_below.specs.Features.{HasFeature, memory64}
use Rattle.wasm_below.specs.Reference.{Reference, FitsRefType}
use Rattle.wasm_below.specs.TypeEncoding.{EncodesShort, EncodesHeapType, EncodesRefType, EncodesValType}
use Rattle.wasm_below.proofs.Numbers.{unsigned_below}
use Rattle.wasm_below.proofs.SignedNumbers.{signed_fits}
use Rattle.wasm_imm.specs.declared.block_type.BlockType.{BlockType}
use Rattle.wasm_imm.specs.declared.block_type.BlockType.TheVariants as block
use Rattle.wasm_imm.specs.declared.memory_argument.MemArg.{MemArg}
use Rattle.wasm_imm.specs.declared.memory_argument.MemArgKind.{MemArgKind}
use Rattle.wasm_imm.specs.declared.memory_argument.MemArgTarget.{MemArgTarget}
use Rattle.wasm_imm.specs.declared.memory_argument.MemArgTarget.TheVariants as target
use Rattle.wasm_imm.specs.declared.memory_argument.MemArgOrdering.{MemArgOrdering}
use Rattle.wasm_imm.specs.declared.memory_argument.MemArgOrdering.TheVariants as ordering
use Rattle.wasm_imm.specs.BlockTypes.{EncodesBlockType}
use Rattle.wasm_imm.specs.MemoryArgument.{EncodesTarget, EncodesOrdering, EncodesOffset, EncodesMemArg}
use Rattle.wasm_encode_immediates.specs.MemoryBytes.{IsTargetWritable, IsOrderingWritable, IsWritable}
use Rattle.wasm_encode_immediates.specs.TypeBytes.{FitsValType, FitsBlockType}

pub heap_fits : (t : HeapType) (text : List ℕ) → EncodesHeapType text t → FitsRefType t
heap_fits (heap.Abstract shared ty) text p = tt
heap_fits (heap.Concrete index) text p = p.1
heap_fits (heap.Exact index) text (after, e, n, i) = i

reference_fits : (r : Reference) (text : List ℕ) → EncodesRefType text r → FitsRefType r.heap_type
reference_fits r text (inl p) = short_fits r.heap_type p.1
  where
    short_fits : (t : HeapType) → EncodesShort text t → FitsRefType t
    short_fits (heap.Abstract shared ty) s = tt
    short_fits (heap.Concrete index) s = absurd s
    short_fits (heap.Exact index) s = absurd s
reference_fits r text (inr (after, e, p)) = heap_fits r.heap_type after p

pub value_fits : (t : ValType) (text : List ℕ) → EncodesValType text t → FitsValType t
value_fits (value.Ref r) text p = reference_fits r text p
value_fits _ text p = tt

pub block_fits : (t : BlockType) (text : List ℕ) → EncodesBlockType text t → FitsBlockType t
block_fits block.Empty text p = tt
block_fits (block.Value ty) text p = value_fits ty text p
block_fits (block.FuncType index) text p = let f = signed_fits text 33 (pos index) p in omega (arith, ints, f.1)

target_fits : (f : WasmFeatures) (part : ℕ) (text : List ℕ) (t : MemArgTarget) → EncodesTarget f part text t → IsTargetWritable f t
target_fits f part text (target.Array i) (h, e, p) = (unsigned_below text 32 i p, h)
target_fits f part text (target.Memory i) (inl (h, e, p)) = (unsigned_below text 32 i p, inr h)
target_fits f part text (target.Memory i) (inr (e, n, z)) = (omega (arith, z), inl z)

ordering_fits : (f : WasmFeatures) (k : MemArgKind) (part : ℕ) (text : List ℕ) (o : Option MemArgOrdering) → EncodesOrdering f k part text o → IsOrderingWritable f k o
ordering_fits f k part text None p = tt
ordering_fits f k part text (Some (ordering.Op o)) (h, e, byte, is, b) = (h, b.0)
ordering_fits f k part text (Some (ordering.Rmw o)) (h, e, byte, is, b) = (h, b.0)

pub argument_fits : (f : WasmFeatures) (k : MemArgKind) (max : ℕ) (m : MemArg) (text : List ℕ) → EncodesMemArg f k max text m → IsWritable f k max m
argument_fits f k max m text (first, rest, flags, e, number, p) =
    record {
      align = p.align;
      natural = p.max_align;
      target = target_fits f p.of_target p.index m.target p.target;
      ordering = ordering_fits f k p.of_ordering p.byte m.ordering p.ordering;
      small = small p.offset;
      offset = wide p.offset;
    }
  where
    small : EncodesOffset f p.after m.offset → m.offset < 2 ^ 64
    small (inl (h, n)) = unsigned_below p.after 64 m.offset n
    small (inr (h, n)) = let lt = unsigned_below p.after 32 m.offset n in omega (arith, lt)

    wide : EncodesOffset f p.after m.offset → (m.offset < 2 ^ 32) ⊎ HasFeature memory64 f
    wide (inl (h, n)) = inr h
    wide (inr (h, n)) = inl (unsigned_below p.after 32 m.offset n)
