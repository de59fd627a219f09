-- Specification: Binary Format, Types; Control Instructions.
use Rattle.std.specs.Prelude.{ℕ, ◌+◌, List, true, false, if◌then◌else◌, Option, Some, None, length, min}
use Rattle.wasm_below.specs.declared.types.HeapType.{HeapType}
use Rattle.wasm_below.specs.declared.types.HeapType.TheVariants as heap
use Rattle.wasm_below.specs.declared.types.ValType.{ValType}
use Rattle.wasm_below.specs.declared.types.ValType.TheVariants as value
use Rattle.wasm_below.specs.Reference.{Reference}
use Rattle.wasm_below.specs.TypeEncoding.{heap_type_byte}
use Rattle.wasm_imm.specs.declared.block_type.BlockType.{BlockType}
use Rattle.wasm_imm.specs.declared.block_type.BlockType.TheVariants as block
use Rattle.wasm_imm.specs.declared.memory_argument.MemArgTarget.{MemArgTarget}
use Rattle.wasm_imm.specs.declared.memory_argument.MemArgTarget.TheVariants as target
use Rattle.wasm_imm.specs.declared.memory_argument.MemArgOrdering.{MemArgOrdering}
use Rattle.wasm_imm.specs.declared.memory_argument.MemArgOrdering.TheVariants as ordering
use Rattle.wasm_imm.specs.declared.ordering.Ordering.{Ordering}
use Rattle.wasm_imm.specs.MemoryArgument.{ordering_byte}

-- The byte of an abstract heap type, plus 256 if shared; 1 for a type index, 2 for an exact one.
abbrev pub heap_kind : HeapType → ℕ
heap_kind (heap.Abstract false ty) = heap_type_byte ty
heap_kind (heap.Abstract true ty) = heap_type_byte ty + 256
heap_kind (heap.Concrete index) = 1
heap_kind (heap.Exact index) = 2

abbrev pub heap_index : HeapType → ℕ
heap_index (heap.Abstract shared ty) = 0
heap_index (heap.Concrete index) = index
heap_index (heap.Exact index) = index

abbrev pub reference_kind : Reference → ℕ
reference_kind r = heap_kind r.heap_type + (if r.nullable then 512 else 0)

-- The type's byte; for a reference type, its kind plus 1024.
abbrev pub value_kind : ValType → ℕ
value_kind value.I32 = 0x7f
value_kind value.I64 = 0x7e
value_kind value.F32 = 0x7d
value_kind value.F64 = 0x7c
value_kind value.V128 = 0x7b
value_kind (value.Ref r) = reference_kind r + 1024

abbrev pub value_index : ValType → ℕ
value_index (value.Ref r) = heap_index r.heap_type
value_index _ = 0

abbrev pub block_kind : BlockType → ℕ
block_kind block.Empty = 0x40
block_kind (block.Value ty) = value_kind ty
block_kind (block.FuncType index) = 0

abbrev pub block_index : BlockType → ℕ
block_index block.Empty = 0
block_index (block.Value ty) = value_index ty
block_index (block.FuncType index) = index

-- 0 for a memory, 1 for an array.
abbrev pub target_number : MemArgTarget → ℕ
target_number (target.Memory index) = 0
target_number (target.Array index) = 1

abbrev pub target_index : MemArgTarget → ℕ
target_index (target.Memory index) = index
target_index (target.Array index) = index

abbrev pub order_number : Ordering → ℕ
order_number o = 1 + ordering_byte o

-- 0 without an ordering, 1 for `seq_cst`, 2 for `acq_rel`; 3 and 4 for these of a
-- read-modify-write.
abbrev pub ordering_number : Option MemArgOrdering → ℕ
ordering_number None = 0
ordering_number (Some (ordering.Op o)) = 1 + ordering_byte o
ordering_number (Some (ordering.Rmw o)) = 3 + ordering_byte o

-- The length of a list, at most the largest `u32`.
abbrev pub count : {X : Type 0} → List X → ℕ
count items = min (length items) 4294967295
