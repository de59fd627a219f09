-- Specification: Binary Format, Instructions.
use Rattle.std.specs.Prelude.{◌≡◌, ℕ, ℤ, List, [], ◌∷◌, ◌++◌}
use Rattle.std.specs.Int.{w32, w64}
use Rattle.wasm_below.specs.declared.features.WasmFeatures.{WasmFeatures}
use Rattle.wasm_below.specs.declared.types.HeapType.{HeapType}
use Rattle.wasm_below.specs.Number.{EncodesUnsigned, EncodesSigned, EncodesFixed}
use Rattle.wasm_below.specs.Source.{IsByte}
use Rattle.wasm_below.specs.TypeEncoding.{EncodesHeapType}
use Rattle.wasm_imm.specs.declared.block_type.BlockType.{BlockType}
use Rattle.wasm_imm.specs.declared.cast.Cast.{Cast}
use Rattle.wasm_imm.specs.declared.constants.V128.{V128}
use Rattle.wasm_imm.specs.declared.handler_tables.ResumeTable.{ResumeTable}
use Rattle.wasm_imm.specs.declared.handler_tables.TryTable.{TryTable}
use Rattle.wasm_imm.specs.declared.memory_argument.MemArg.{MemArg}
use Rattle.wasm_imm.specs.declared.memory_argument.MemArgKind.{MemArgKind}
use Rattle.wasm_imm.specs.declared.ordering.Ordering.{Ordering}
use Rattle.wasm_imm.specs.declared.select.Select.{Select}
use Rattle.wasm_imm.specs.BlockTypes.{EncodesBlockType}
use Rattle.wasm_imm.specs.BranchTables.{BranchTable, EncodesBranchTable}
use Rattle.wasm_imm.specs.Casts.{EncodesCast}
use Rattle.wasm_imm.specs.HandlerTables.{EncodesSelect, EncodesTryTable, EncodesResumeTable}
use Rattle.wasm_imm.specs.Indices.{EncodesMemoryIndex, EncodesTableIndex}
use Rattle.wasm_imm.specs.Orderings.{EncodesOrderingByte, EncodesFence}
use Rattle.wasm_imm.specs.Vectors.{EncodesSixteen, EncodesVector}
use Rattle.wasm_imm.specs.MemoryArgument.{EncodesMemArg}

-- An immediate with its value, and for a memory argument with the operator's kind and natural
-- alignment.
pub data Immediate : Type 0 where
  unsigned_32 : ℕ → Immediate
  signed_32 : ℤ → Immediate
  signed_64 : ℤ → Immediate
  float_32 : ℕ → Immediate
  float_64 : ℕ → Immediate
  vector : V128 → Immediate
  one_lane : ℕ → Immediate
  sixteen_lanes : List ℕ → Immediate
  memory_argument : MemArgKind → ℕ → MemArg → Immediate
  memory_index : ℕ → Immediate
  table_index_32 : ℕ → Immediate
  order : Ordering → Immediate
  fence_order : Ordering → Immediate
  heap_type : HeapType → Immediate
  cast : Cast → Immediate
  block_type : BlockType → Immediate
  branch_table : BranchTable → Immediate
  select_types : Select → Immediate
  try_clauses : TryTable → Immediate
  resume_clauses : ResumeTable → Immediate

-- The kind of an immediate, without its value.
pub data Kind : Type 0 where
  is_unsigned_32 is_signed_32 is_signed_64 is_float_32 is_float_64 is_vector is_one_lane is_sixteen_lanes : Kind
  is_memory_argument : MemArgKind → ℕ → Kind
  is_memory_index is_table_index is_order is_fence_order is_heap_type is_cast is_block_type is_branch_table is_select_types is_try_clauses is_resume_clauses : Kind

abbrev pub kind_of : Immediate → Kind
kind_of (unsigned_32 _) = is_unsigned_32
kind_of (signed_32 _) = is_signed_32
kind_of (signed_64 _) = is_signed_64
kind_of (float_32 _) = is_float_32
kind_of (float_64 _) = is_float_64
kind_of (vector _) = is_vector
kind_of (one_lane _) = is_one_lane
kind_of (sixteen_lanes _) = is_sixteen_lanes
kind_of (memory_argument kind max _) = is_memory_argument kind max
kind_of (memory_index _) = is_memory_index
kind_of (table_index_32 _) = is_table_index
kind_of (order _) = is_order
kind_of (fence_order _) = is_fence_order
kind_of (heap_type _) = is_heap_type
kind_of (cast _) = is_cast
kind_of (block_type _) = is_block_type
kind_of (branch_table _) = is_branch_table
kind_of (select_types _) = is_select_types
kind_of (try_clauses _) = is_try_clauses
kind_of (resume_clauses _) = is_resume_clauses

abbrev pub EncodesImmediate : WasmFeatures → List ℕ → Immediate → Type 0
EncodesImmediate f bytes (unsigned_32 n) = EncodesUnsigned 32 bytes n
EncodesImmediate f bytes (signed_32 n) = EncodesSigned 32 bytes n
EncodesImmediate f bytes (signed_64 n) = EncodesSigned 64 bytes n
EncodesImmediate f bytes (float_32 n) = EncodesFixed w32 bytes n
EncodesImmediate f bytes (float_64 n) = EncodesFixed w64 bytes n
EncodesImmediate f bytes (vector v) = EncodesVector bytes v
EncodesImmediate f bytes (one_lane n) = IsByte bytes n
EncodesImmediate f bytes (sixteen_lanes v) = EncodesSixteen bytes v
EncodesImmediate f bytes (memory_argument kind max m) = EncodesMemArg f kind max bytes m
EncodesImmediate f bytes (memory_index n) = EncodesMemoryIndex f bytes n
EncodesImmediate f bytes (table_index_32 n) = EncodesTableIndex f bytes n
EncodesImmediate f bytes (order o) = EncodesOrderingByte bytes o
EncodesImmediate f bytes (fence_order o) = EncodesFence f bytes o
EncodesImmediate f bytes (heap_type t) = EncodesHeapType bytes t
EncodesImmediate f bytes (cast c) = EncodesCast bytes c
EncodesImmediate f bytes (block_type t) = EncodesBlockType bytes t
EncodesImmediate f bytes (branch_table t) = EncodesBranchTable bytes t
EncodesImmediate f bytes (select_types types) = EncodesSelect bytes types
EncodesImmediate f bytes (try_clauses t) = EncodesTryTable bytes t
EncodesImmediate f bytes (resume_clauses t) = EncodesResumeTable bytes t

-- The encodings of the immediates, in sequence.
abbrev pub EncodesImmediates : WasmFeatures → List ℕ → List Immediate → Type 0
EncodesImmediates f bytes [] = bytes ≡ []
EncodesImmediates f bytes (i ∷ is) = (first more : List ℕ) × (bytes ≡ first ++ more) × EncodesImmediate f first i × EncodesImmediates f more is
