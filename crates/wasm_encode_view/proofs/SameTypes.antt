-- The bytes of a type are the same from its numbers and from its value.
use Rattle.std.proofs.Common.{◌≡◌, ◌%◌, Bool, true, false, cond, refl}
use Rattle.wasm_below.specs.declared.types.AbstractHeapType.TheVariants as ty
use Rattle.wasm_below.specs.declared.types.HeapType.{HeapType}
use Rattle.wasm_below.specs.declared.types.HeapType.TheVariants as heap
use Rattle.wasm_below.specs.declared.types.ValType.{ValType}
use Rattle.wasm_below.specs.declared.types.ValType.TheVariants as value
use Rattle.wasm_below.specs.Reference.{Reference}
use Rattle.wasm_imm.specs.declared.block_type.BlockType.{BlockType}
use Rattle.wasm_imm.specs.declared.block_type.BlockType.TheVariants as block
use Rattle.wasm_encode_immediates.specs.TypeBytes as typed
use Rattle.wasm_view.specs.Numbers.{heap_kind, heap_index, reference_kind, value_kind, value_index, block_kind, block_index}
use Rattle.wasm_encode_view.specs.Bytes.{heap_bytes, value_bytes, block_bytes, null_flag}

abbrev pub reference : Bool → HeapType → Reference
reference null h = record { nullable = null; heap_type = h }

pub heap_same : (h : HeapType) → heap_bytes (heap_kind h) (heap_index h) ≡ typed.heap_type_bytes h
heap_same (heap.Abstract false ty.NoCont) = refl
heap_same (heap.Abstract false ty.NoExn) = refl
heap_same (heap.Abstract false ty.NoFunc) = refl
heap_same (heap.Abstract false ty.NoExtern) = refl
heap_same (heap.Abstract false ty.None) = refl
heap_same (heap.Abstract false ty.Func) = refl
heap_same (heap.Abstract false ty.Extern) = refl
heap_same (heap.Abstract false ty.Any) = refl
heap_same (heap.Abstract false ty.Eq) = refl
heap_same (heap.Abstract false ty.I31) = refl
heap_same (heap.Abstract false ty.Struct) = refl
heap_same (heap.Abstract false ty.Array) = refl
heap_same (heap.Abstract false ty.Exn) = refl
heap_same (heap.Abstract false ty.Cont) = refl
heap_same (heap.Abstract true ty.NoCont) = refl
heap_same (heap.Abstract true ty.NoExn) = refl
heap_same (heap.Abstract true ty.NoFunc) = refl
heap_same (heap.Abstract true ty.NoExtern) = refl
heap_same (heap.Abstract true ty.None) = refl
heap_same (heap.Abstract true ty.Func) = refl
heap_same (heap.Abstract true ty.Extern) = refl
heap_same (heap.Abstract true ty.Any) = refl
heap_same (heap.Abstract true ty.Eq) = refl
heap_same (heap.Abstract true ty.I31) = refl
heap_same (heap.Abstract true ty.Struct) = refl
heap_same (heap.Abstract true ty.Array) = refl
heap_same (heap.Abstract true ty.Exn) = refl
heap_same (heap.Abstract true ty.Cont) = refl
heap_same (heap.Concrete index) = refl
heap_same (heap.Exact index) = refl

-- Without the 512 of null.
pub heap_of_reference : (null : Bool) (h : HeapType) → heap_bytes (reference_kind (reference null h) % 512) (heap_index h) ≡ typed.heap_type_bytes h
heap_of_reference false (heap.Abstract false ty.NoCont) = refl
heap_of_reference false (heap.Abstract false ty.NoExn) = refl
heap_of_reference false (heap.Abstract false ty.NoFunc) = refl
heap_of_reference false (heap.Abstract false ty.NoExtern) = refl
heap_of_reference false (heap.Abstract false ty.None) = refl
heap_of_reference false (heap.Abstract false ty.Func) = refl
heap_of_reference false (heap.Abstract false ty.Extern) = refl
heap_of_reference false (heap.Abstract false ty.Any) = refl
heap_of_reference false (heap.Abstract false ty.Eq) = refl
heap_of_reference false (heap.Abstract false ty.I31) = refl
heap_of_reference false (heap.Abstract false ty.Struct) = refl
heap_of_reference false (heap.Abstract false ty.Array) = refl
heap_of_reference false (heap.Abstract false ty.Exn) = refl
heap_of_reference false (heap.Abstract false ty.Cont) = refl
heap_of_reference false (heap.Abstract true ty.NoCont) = refl
heap_of_reference false (heap.Abstract true ty.NoExn) = refl
heap_of_reference false (heap.Abstract true ty.NoFunc) = refl
heap_of_reference false (heap.Abstract true ty.NoExtern) = refl
heap_of_reference false (heap.Abstract true ty.None) = refl
heap_of_reference false (heap.Abstract true ty.Func) = refl
heap_of_reference false (heap.Abstract true ty.Extern) = refl
heap_of_reference false (heap.Abstract true ty.Any) = refl
heap_of_reference false (heap.Abstract true ty.Eq) = refl
heap_of_reference false (heap.Abstract true ty.I31) = refl
heap_of_reference false (heap.Abstract true ty.Struct) = refl
heap_of_reference false (heap.Abstract true ty.Array) = refl
heap_of_reference false (heap.Abstract true ty.Exn) = refl
heap_of_reference false (heap.Abstract true ty.Cont) = refl
heap_of_reference false (heap.Concrete index) = refl
heap_of_reference false (heap.Exact index) = refl
heap_of_reference true (heap.Abstract false ty.NoCont) = refl
heap_of_reference true (heap.Abstract false ty.NoExn) = refl
heap_of_reference true (heap.Abstract false ty.NoFunc) = refl
heap_of_reference true (heap.Abstract false ty.NoExtern) = refl
heap_of_reference true (heap.Abstract false ty.None) = refl
heap_of_reference true (heap.Abstract false ty.Func) = refl
heap_of_reference true (heap.Abstract false ty.Extern) = refl
heap_of_reference true (heap.Abstract false ty.Any) = refl
heap_of_reference true (heap.Abstract false ty.Eq) = refl
heap_of_reference true (heap.Abstract false ty.I31) = refl
heap_of_reference true (heap.Abstract false ty.Struct) = refl
heap_of_reference true (heap.Abstract false ty.Array) = refl
heap_of_reference true (heap.Abstract false ty.Exn) = refl
heap_of_reference true (heap.Abstract false ty.Cont) = refl
heap_of_reference true (heap.Abstract true ty.NoCont) = refl
heap_of_reference true (heap.Abstract true ty.NoExn) = refl
heap_of_reference true (heap.Abstract true ty.NoFunc) = refl
heap_of_reference true (heap.Abstract true ty.NoExtern) = refl
heap_of_reference true (heap.Abstract true ty.None) = refl
heap_of_reference true (heap.Abstract true ty.Func) = refl
heap_of_reference true (heap.Abstract true ty.Extern) = refl
heap_of_reference true (heap.Abstract true ty.Any) = refl
heap_of_reference true (heap.Abstract true ty.Eq) = refl
heap_of_reference true (heap.Abstract true ty.I31) = refl
heap_of_reference true (heap.Abstract true ty.Struct) = refl
heap_of_reference true (heap.Abstract true ty.Array) = refl
heap_of_reference true (heap.Abstract true ty.Exn) = refl
heap_of_reference true (heap.Abstract true ty.Cont) = refl
heap_of_reference true (heap.Concrete index) = refl
heap_of_reference true (heap.Exact index) = refl

pub null_same : (null : Bool) (h : HeapType) → null_flag (reference_kind (reference null h)) ≡ cond null 1 0
null_same false (heap.Abstract false ty.NoCont) = refl
null_same false (heap.Abstract false ty.NoExn) = refl
null_same false (heap.Abstract false ty.NoFunc) = refl
null_same false (heap.Abstract false ty.NoExtern) = refl
null_same false (heap.Abstract false ty.None) = refl
null_same false (heap.Abstract false ty.Func) = refl
null_same false (heap.Abstract false ty.Extern) = refl
null_same false (heap.Abstract false ty.Any) = refl
null_same false (heap.Abstract false ty.Eq) = refl
null_same false (heap.Abstract false ty.I31) = refl
null_same false (heap.Abstract false ty.Struct) = refl
null_same false (heap.Abstract false ty.Array) = refl
null_same false (heap.Abstract false ty.Exn) = refl
null_same false (heap.Abstract false ty.Cont) = refl
null_same false (heap.Abstract true ty.NoCont) = refl
null_same false (heap.Abstract true ty.NoExn) = refl
null_same false (heap.Abstract true ty.NoFunc) = refl
null_same false (heap.Abstract true ty.NoExtern) = refl
null_same false (heap.Abstract true ty.None) = refl
null_same false (heap.Abstract true ty.Func) = refl
null_same false (heap.Abstract true ty.Extern) = refl
null_same false (heap.Abstract true ty.Any) = refl
null_same false (heap.Abstract true ty.Eq) = refl
null_same false (heap.Abstract true ty.I31) = refl
null_same false (heap.Abstract true ty.Struct) = refl
null_same false (heap.Abstract true ty.Array) = refl
null_same false (heap.Abstract true ty.Exn) = refl
null_same false (heap.Abstract true ty.Cont) = refl
null_same false (heap.Concrete index) = refl
null_same false (heap.Exact index) = refl
null_same true (heap.Abstract false ty.NoCont) = refl
null_same true (heap.Abstract false ty.NoExn) = refl
null_same true (heap.Abstract false ty.NoFunc) = refl
null_same true (heap.Abstract false ty.NoExtern) = refl
null_same true (heap.Abstract false ty.None) = refl
null_same true (heap.Abstract false ty.Func) = refl
null_same true (heap.Abstract false ty.Extern) = refl
null_same true (heap.Abstract false ty.Any) = refl
null_same true (heap.Abstract false ty.Eq) = refl
null_same true (heap.Abstract false ty.I31) = refl
null_same true (heap.Abstract false ty.Struct) = refl
null_same true (heap.Abstract false ty.Array) = refl
null_same true (heap.Abstract false ty.Exn) = refl
null_same true (heap.Abstract false ty.Cont) = refl
null_same true (heap.Abstract true ty.NoCont) = refl
null_same true (heap.Abstract true ty.NoExn) = refl
null_same true (heap.Abstract true ty.NoFunc) = refl
null_same true (heap.Abstract true ty.NoExtern) = refl
null_same true (heap.Abstract true ty.None) = refl
null_same true (heap.Abstract true ty.Func) = refl
null_same true (heap.Abstract true ty.Extern) = refl
null_same true (heap.Abstract true ty.Any) = refl
null_same true (heap.Abstract true ty.Eq) = refl
null_same true (heap.Abstract true ty.I31) = refl
null_same true (heap.Abstract true ty.Struct) = refl
null_same true (heap.Abstract true ty.Array) = refl
null_same true (heap.Abstract true ty.Exn) = refl
null_same true (heap.Abstract true ty.Cont) = refl
null_same true (heap.Concrete index) = refl
null_same true (heap.Exact index) = refl

reference_value : (null : Bool) (h : HeapType) →
    (let v : ValType = value.Ref (reference null h) in value_bytes (value_kind v) (value_index v) ≡ typed.value_type_bytes v)
reference_value false (heap.Abstract false ty.NoCont) = refl
reference_value false (heap.Abstract false ty.NoExn) = refl
reference_value false (heap.Abstract false ty.NoFunc) = refl
reference_value false (heap.Abstract false ty.NoExtern) = refl
reference_value false (heap.Abstract false ty.None) = refl
reference_value false (heap.Abstract false ty.Func) = refl
reference_value false (heap.Abstract false ty.Extern) = refl
reference_value false (heap.Abstract false ty.Any) = refl
reference_value false (heap.Abstract false ty.Eq) = refl
reference_value false (heap.Abstract false ty.I31) = refl
reference_value false (heap.Abstract false ty.Struct) = refl
reference_value false (heap.Abstract false ty.Array) = refl
reference_value false (heap.Abstract false ty.Exn) = refl
reference_value false (heap.Abstract false ty.Cont) = refl
reference_value false (heap.Abstract true ty.NoCont) = refl
reference_value false (heap.Abstract true ty.NoExn) = refl
reference_value false (heap.Abstract true ty.NoFunc) = refl
reference_value false (heap.Abstract true ty.NoExtern) = refl
reference_value false (heap.Abstract true ty.None) = refl
reference_value false (heap.Abstract true ty.Func) = refl
reference_value false (heap.Abstract true ty.Extern) = refl
reference_value false (heap.Abstract true ty.Any) = refl
reference_value false (heap.Abstract true ty.Eq) = refl
reference_value false (heap.Abstract true ty.I31) = refl
reference_value false (heap.Abstract true ty.Struct) = refl
reference_value false (heap.Abstract true ty.Array) = refl
reference_value false (heap.Abstract true ty.Exn) = refl
reference_value false (heap.Abstract true ty.Cont) = refl
reference_value false (heap.Concrete index) = refl
reference_value false (heap.Exact index) = refl
reference_value true (heap.Abstract false ty.NoCont) = refl
reference_value true (heap.Abstract false ty.NoExn) = refl
reference_value true (heap.Abstract false ty.NoFunc) = refl
reference_value true (heap.Abstract false ty.NoExtern) = refl
reference_value true (heap.Abstract false ty.None) = refl
reference_value true (heap.Abstract false ty.Func) = refl
reference_value true (heap.Abstract false ty.Extern) = refl
reference_value true (heap.Abstract false ty.Any) = refl
reference_value true (heap.Abstract false ty.Eq) = refl
reference_value true (heap.Abstract false ty.I31) = refl
reference_value true (heap.Abstract false ty.Struct) = refl
reference_value true (heap.Abstract false ty.Array) = refl
reference_value true (heap.Abstract false ty.Exn) = refl
reference_value true (heap.Abstract false ty.Cont) = refl
reference_value true (heap.Abstract true ty.NoCont) = refl
reference_value true (heap.Abstract true ty.NoExn) = refl
reference_value true (heap.Abstract true ty.NoFunc) = refl
reference_value true (heap.Abstract true ty.NoExtern) = refl
reference_value true (heap.Abstract true ty.None) = refl
reference_value true (heap.Abstract true ty.Func) = refl
reference_value true (heap.Abstract true ty.Extern) = refl
reference_value true (heap.Abstract true ty.Any) = refl
reference_value true (heap.Abstract true ty.Eq) = refl
reference_value true (heap.Abstract true ty.I31) = refl
reference_value true (heap.Abstract true ty.Struct) = refl
reference_value true (heap.Abstract true ty.Array) = refl
reference_value true (heap.Abstract true ty.Exn) = refl
reference_value true (heap.Abstract true ty.Cont) = refl
reference_value true (heap.Concrete index) = refl
reference_value true (heap.Exact index) = refl

pub value_same : (v : ValType) → value_bytes (value_kind v) (value_index v) ≡ typed.value_type_bytes v
value_same value.I32 = refl
value_same value.I64 = refl
value_same value.F32 = refl
value_same value.F64 = refl
value_same value.V128 = refl
value_same (value.Ref r) = reference_value r.nullable r.heap_type

reference_block : (null : Bool) (h : HeapType) →
    (let b : BlockType = block.Value (value.Ref (reference null h)) in block_bytes (block_kind b) (block_index b) ≡ typed.block_type_bytes b)
reference_block false (heap.Abstract false ty.NoCont) = refl
reference_block false (heap.Abstract false ty.NoExn) = refl
reference_block false (heap.Abstract false ty.NoFunc) = refl
reference_block false (heap.Abstract false ty.NoExtern) = refl
reference_block false (heap.Abstract false ty.None) = refl
reference_block false (heap.Abstract false ty.Func) = refl
reference_block false (heap.Abstract false ty.Extern) = refl
reference_block false (heap.Abstract false ty.Any) = refl
reference_block false (heap.Abstract false ty.Eq) = refl
reference_block false (heap.Abstract false ty.I31) = refl
reference_block false (heap.Abstract false ty.Struct) = refl
reference_block false (heap.Abstract false ty.Array) = refl
reference_block false (heap.Abstract false ty.Exn) = refl
reference_block false (heap.Abstract false ty.Cont) = refl
reference_block false (heap.Abstract true ty.NoCont) = refl
reference_block false (heap.Abstract true ty.NoExn) = refl
reference_block false (heap.Abstract true ty.NoFunc) = refl
reference_block false (heap.Abstract true ty.NoExtern) = refl
reference_block false (heap.Abstract true ty.None) = refl
reference_block false (heap.Abstract true ty.Func) = refl
reference_block false (heap.Abstract true ty.Extern) = refl
reference_block false (heap.Abstract true ty.Any) = refl
reference_block false (heap.Abstract true ty.Eq) = refl
reference_block false (heap.Abstract true ty.I31) = refl
reference_block false (heap.Abstract true ty.Struct) = refl
reference_block false (heap.Abstract true ty.Array) = refl
reference_block false (heap.Abstract true ty.Exn) = refl
reference_block false (heap.Abstract true ty.Cont) = refl
reference_block false (heap.Concrete index) = refl
reference_block false (heap.Exact index) = refl
reference_block true (heap.Abstract false ty.NoCont) = refl
reference_block true (heap.Abstract false ty.NoExn) = refl
reference_block true (heap.Abstract false ty.NoFunc) = refl
reference_block true (heap.Abstract false ty.NoExtern) = refl
reference_block true (heap.Abstract false ty.None) = refl
reference_block true (heap.Abstract false ty.Func) = refl
reference_block true (heap.Abstract false ty.Extern) = refl
reference_block true (heap.Abstract false ty.Any) = refl
reference_block true (heap.Abstract false ty.Eq) = refl
reference_block true (heap.Abstract false ty.I31) = refl
reference_block true (heap.Abstract false ty.Struct) = refl
reference_block true (heap.Abstract false ty.Array) = refl
reference_block true (heap.Abstract false ty.Exn) = refl
reference_block true (heap.Abstract false ty.Cont) = refl
reference_block true (heap.Abstract true ty.NoCont) = refl
reference_block true (heap.Abstract true ty.NoExn) = refl
reference_block true (heap.Abstract true ty.NoFunc) = refl
reference_block true (heap.Abstract true ty.NoExtern) = refl
reference_block true (heap.Abstract true ty.None) = refl
reference_block true (heap.Abstract true ty.Func) = refl
reference_block true (heap.Abstract true ty.Extern) = refl
reference_block true (heap.Abstract true ty.Any) = refl
reference_block true (heap.Abstract true ty.Eq) = refl
reference_block true (heap.Abstract true ty.I31) = refl
reference_block true (heap.Abstract true ty.Struct) = refl
reference_block true (heap.Abstract true ty.Array) = refl
reference_block true (heap.Abstract true ty.Exn) = refl
reference_block true (heap.Abstract true ty.Cont) = refl
reference_block true (heap.Concrete index) = refl
reference_block true (heap.Exact index) = refl

pub block_same : (b : BlockType) → block_bytes (block_kind b) (block_index b) ≡ typed.block_type_bytes b
block_same block.Empty = refl
block_same (block.Value value.I32) = refl
block_same (block.Value value.I64) = refl
block_same (block.Value value.F32) = refl
block_same (block.Value value.F64) = refl
block_same (block.Value value.V128) = refl
block_same (block.Value (value.Ref r)) = reference_block r.nullable r.heap_type
block_same (block.FuncType index) = refl
