-- The value of a list's first immediate if it has this kind, otherwise some value.
use Rattle.std.proofs.Common.{ℕ, ℤ, pos, false, List, [], ◌∷◌, None}
use Rattle.wasm_below.specs.Reference.{Reference}
use Rattle.wasm_below.specs.declared.types.HeapType.{HeapType}
use Rattle.wasm_below.specs.declared.types.HeapType.TheVariants as heap
use Rattle.wasm_below.specs.declared.types.ValType.{ValType}
use Rattle.wasm_below.specs.declared.types.ValType.TheVariants.{I32}
use Rattle.wasm_imm.specs.declared.block_type.BlockType.{BlockType}
use Rattle.wasm_imm.specs.declared.block_type.BlockType.TheVariants as block
use Rattle.wasm_imm.specs.declared.constants.V128.{V128}
use Rattle.wasm_imm.specs.declared.handler_tables.ResumeTable.{ResumeTable}
use Rattle.wasm_imm.specs.declared.handler_tables.TryTable.{TryTable}
use Rattle.wasm_imm.specs.declared.memory_argument.MemArg.{MemArg}
use Rattle.wasm_imm.specs.declared.memory_argument.MemArgTarget.TheVariants as target
use Rattle.wasm_imm.specs.declared.ordering.Ordering.{Ordering}
use Rattle.wasm_imm.specs.declared.ordering.Ordering.TheVariants.{SeqCst}
use Rattle.wasm_imm.specs.declared.select.Select.{Select}
use Rattle.wasm_imm.specs.declared.select.Select.TheVariants as select
use Rattle.wasm_imm.specs.BranchTables.{BranchTable}
use Rattle.wasm_imm.specs.Immediate.{Immediate, unsigned_32, signed_32, signed_64, float_32, float_64, vector, one_lane, sixteen_lanes, memory_argument, memory_index, table_index_32, order, fence_order, heap_type, cast, block_type, branch_table, select_types, try_clauses, resume_clauses}

abbrev pub tail_of : List Immediate → List Immediate
tail_of [] = []
tail_of (i ∷ is) = is

abbrev pub number_in : List Immediate → ℕ
number_in (unsigned_32 n ∷ _) = n
number_in (float_32 n ∷ _) = n
number_in (float_64 n ∷ _) = n
number_in (one_lane n ∷ _) = n
number_in (memory_index n ∷ _) = n
number_in (table_index_32 n ∷ _) = n
number_in _ = 0

abbrev pub integer_in : List Immediate → ℤ
integer_in (signed_32 n ∷ _) = n
integer_in (signed_64 n ∷ _) = n
integer_in _ = pos 0

abbrev pub bytes_in : List Immediate → List ℕ
bytes_in (sixteen_lanes v ∷ _) = v
bytes_in _ = []

abbrev pub vector_in : List Immediate → V128
vector_in (vector v ∷ _) = v
vector_in _ = record { 0 = [] }

abbrev pub argument_in : List Immediate → MemArg
argument_in (memory_argument _ _ m ∷ _) = m
argument_in _ = record { align = 0; max_align = 0; offset = 0; target = target.Memory 0; ordering = None }

abbrev pub order_in : List Immediate → Ordering
order_in (order o ∷ _) = o
order_in (fence_order o ∷ _) = o
order_in _ = SeqCst

abbrev pub heap_type_in : List Immediate → HeapType
heap_type_in (heap_type t ∷ _) = t
heap_type_in _ = heap.Concrete 0

abbrev pub depth_in : List Immediate → ℕ
depth_in (cast c ∷ _) = c.relative_depth
depth_in _ = 0

abbrev pub some_reference : Reference
some_reference = record { nullable = false; heap_type = heap.Concrete 0 }

abbrev pub from_in : List Immediate → Reference
from_in (cast c ∷ _) = c.from
from_in _ = some_reference

abbrev pub to_in : List Immediate → Reference
to_in (cast c ∷ _) = c.to
to_in _ = some_reference

abbrev pub block_type_in : List Immediate → BlockType
block_type_in (block_type t ∷ _) = t
block_type_in _ = block.Empty

abbrev pub branch_table_in : List Immediate → BranchTable
branch_table_in (branch_table t ∷ _) = t
branch_table_in _ = record { count = 0; targets = []; default = 0 }

abbrev pub select_in : List Immediate → Select
select_in (select_types types ∷ _) = types
select_in _ = select.Multi []

abbrev pub one_type_in : List Immediate → ValType
one_type_in (select_types (select.One ty) ∷ _) = ty
one_type_in _ = I32

abbrev pub types_in : List Immediate → List ValType
types_in (select_types (select.Multi tys) ∷ _) = tys
types_in _ = []

abbrev pub try_table_in : List Immediate → TryTable
try_table_in (try_clauses t ∷ _) = t
try_table_in _ = record { ty = block.Empty; catches = [] }

abbrev pub resume_table_in : List Immediate → ResumeTable
resume_table_in (resume_clauses t ∷ _) = t
resume_table_in _ = record { handlers = [] }
