-- The shortest encodings of types.
-- Specification: Binary Format, Types; Binary Format, Instructions, Control Instructions.
use Rattle.std.specs.Prelude.{ℕ, ◌<◌, ◌^◌, Bool, true, false, List, [], ◌∷◌, ◌++◌, pos}
use Rattle.wasm_below.specs.declared.types.HeapType.{HeapType}
use Rattle.wasm_below.specs.declared.types.HeapType.TheVariants as heap
use Rattle.wasm_below.specs.declared.types.ValType.{ValType}
use Rattle.wasm_below.specs.declared.types.ValType.TheVariants as value
use Rattle.wasm_below.specs.Reference.{FitsRefType}
use Rattle.wasm_below.specs.TypeEncoding.{heap_type_byte, ref_byte}
use Rattle.wasm_imm.specs.declared.block_type.BlockType.{BlockType}
use Rattle.wasm_imm.specs.declared.block_type.BlockType.TheVariants as block
use Rattle.wasm_imm.specs.declared.cast.Cast.{Cast}
use Rattle.wasm_imm.specs.Casts.{cast_flags}
use Rattle.wasm_encode_numbers.specs.Shortest.{unsigned_bytes, signed_bytes}

-- The shortest encoding of a heap type.
abbrev pub heap_type_bytes : HeapType → List ℕ
heap_type_bytes (heap.Abstract false ty) = heap_type_byte ty ∷ []
heap_type_bytes (heap.Abstract true ty) = 0x65 ∷ heap_type_byte ty ∷ []
heap_type_bytes (heap.Concrete index) = signed_bytes (pos index)
heap_type_bytes (heap.Exact index) = 0x62 ∷ unsigned_bytes index

-- The shortest encoding of a reference type: one byte less if it has null and is abstract.
abbrev pub reference_bytes : Bool → HeapType → List ℕ
reference_bytes true (heap.Abstract shared ty) = heap_type_bytes (heap.Abstract shared ty)
reference_bytes nullable t = ref_byte nullable ∷ heap_type_bytes t

-- The shortest encoding of a value type.
abbrev pub value_type_bytes : ValType → List ℕ
value_type_bytes value.I32 = 0x7f ∷ []
value_type_bytes value.I64 = 0x7e ∷ []
value_type_bytes value.F32 = 0x7d ∷ []
value_type_bytes value.F64 = 0x7c ∷ []
value_type_bytes value.V128 = 0x7b ∷ []
value_type_bytes (value.Ref r) = reference_bytes r.nullable r.heap_type

-- The shortest encoding of a block type.
abbrev pub block_type_bytes : BlockType → List ℕ
block_type_bytes block.Empty = 0x40 ∷ []
block_type_bytes (block.Value ty) = value_type_bytes ty
block_type_bytes (block.FuncType index) = signed_bytes (pos index)

-- The shortest encoding of a cast: flags, label, and both heap types.
abbrev pub cast_bytes : Cast → List ℕ
cast_bytes c = cast_flags c.from.nullable c.to.nullable ∷ (unsigned_bytes c.relative_depth ++ (heap_type_bytes c.from.heap_type ++ heap_type_bytes c.to.heap_type))

-- A type index in the value type is within the limit.
abbrev pub FitsValType : ValType → Type 0
FitsValType (value.Ref r) = FitsRefType r.heap_type
FitsValType _ = Unit {0}

-- As `FitsValType`. The type of a function has 32 bits.
abbrev pub FitsBlockType : BlockType → Type 0
FitsBlockType block.Empty = Unit {0}
FitsBlockType (block.Value ty) = FitsValType ty
FitsBlockType (block.FuncType index) = index < 2 ^ 32
