use Rattle.std.specs.Prelude.{◌≡◌}
use Rattle.std.proofs.Common.{refl}
use Rattle.wasm_below.specs.declared.types.HeapType.{HeapType}
use Rattle.wasm_below.specs.declared.types.HeapType.TheVariants as heap
use Rattle.wasm_below.specs.declared.types.short.ShortHeapType.{ShortHeapType}
use Rattle.wasm_below.specs.declared.types.short.ShortHeapType.TheVariants as short

-- The heap type that is stored in four bytes.
abbrev pub heap_type_of : ShortHeapType → HeapType
heap_type_of (short.Abstract shared ty) = heap.Abstract shared ty
heap_type_of (short.Concrete index) = heap.Concrete index
heap_type_of (short.Exact index) = heap.Exact index

abbrev pub short_of : HeapType → ShortHeapType
short_of (heap.Abstract shared ty) = short.Abstract shared ty
short_of (heap.Concrete index) = short.Concrete index
short_of (heap.Exact index) = short.Exact index

pub held_again : (t : ShortHeapType) → short_of (heap_type_of t) ≡ t
held_again (short.Abstract shared ty) = refl
held_again (short.Concrete index) = refl
held_again (short.Exact index) = refl
