-- Specification: Text Format, Instructions.
use Rattle.std.specs.Prelude.{ℕ, true, false, List, ◌++◌, codes, decimal, flat_map}
use Rattle.wasm_imm.specs.Immediate.{Immediate, unsigned_32, signed_32, signed_64, float_32, float_64, vector, one_lane, sixteen_lanes, memory_argument, memory_index, table_index_32, order, fence_order, heap_type, cast, block_type, branch_table, select_types, try_clauses, resume_clauses}
use Rattle.wasm_instr.specs.Row.{immediates_of}
use Rattle.wasm_instr.specs.declared.operator.Operator.{Operator}
use Rattle.wasm_instr.specs.declared.operator.Operator.TheVariants as operator
use Rattle.wasm_instr_ops.specs.declared.gc.GcOperator.{GcOperator}
use Rattle.wasm_instr_ops.specs.declared.gc.GcOperator.TheVariants as gc
use Rattle.wasm_imm.specs.declared.cast.Cast.{Cast}
use Rattle.wasm_imm.specs.declared.select.Select.{Select}
use Rattle.wasm_imm.specs.declared.select.Select.TheVariants as select
use Rattle.wasm_text.specs.Floats.{float_32_text, float_64_text}
use Rattle.wasm_text.specs.Names.{text_name}
use Rattle.wasm_text.specs.Values.{number_text, signed_text, words_text, heap_type_text, reference_text, value_type_text, block_type_text, branch_table_text, try_table_text, resume_table_text, order_text, fence_text, memory_argument_text}

abbrev pub select_text : Select → List ℕ
select_text (select.One ty) = value_type_text ty
select_text (select.Multi tys) = flat_map value_type_text tys

abbrev pub cast_text : Cast → List ℕ
cast_text c = number_text c.relative_depth ++ (reference_text c.from.nullable c.from.heap_type ++ reference_text c.to.nullable c.to.heap_type)

abbrev pub immediate_text : Immediate → List ℕ
immediate_text (unsigned_32 n) = number_text n
immediate_text (signed_32 n) = signed_text n
immediate_text (signed_64 n) = signed_text n
immediate_text (float_32 bits) = float_32_text bits
immediate_text (float_64 bits) = float_64_text bits
immediate_text (vector v) = words_text v.0
immediate_text (one_lane n) = number_text n
immediate_text (sixteen_lanes bytes) = words_text bytes
immediate_text (memory_argument kind max m) = memory_argument_text m
immediate_text (memory_index n) = number_text n
immediate_text (table_index_32 n) = number_text n
immediate_text (order o) = order_text o
immediate_text (fence_order o) = fence_text o
immediate_text (heap_type t) = heap_type_text t
immediate_text (cast c) = cast_text c
immediate_text (block_type t) = block_type_text t
immediate_text (branch_table t) = branch_table_text t
immediate_text (select_types types) = select_text types
immediate_text (try_clauses t) = try_table_text t
immediate_text (resume_clauses t) = resume_table_text t

abbrev pub immediates_text : List Immediate → List ℕ
immediates_text is = flat_map immediate_text is

-- The table of an indirect call, and then the function type.
abbrev pub indirect_text : ℕ → ℕ → List ℕ
indirect_text ty table = number_text table ++ (codes " (type " ++ (decimal ty ++ codes ")"))

-- The operands after the prefix byte 0xfb. A test or a cast shows a reference type for its heap
-- type.
abbrev pub gc_operands : GcOperator → List ℕ
gc_operands (gc.RefTestNonNull hty) = reference_text false hty
gc_operands (gc.RefTestNullable hty) = reference_text true hty
gc_operands (gc.RefCastNonNull hty) = reference_text false hty
gc_operands (gc.RefCastNullable hty) = reference_text true hty
gc_operands (gc.RefCastDescEqNonNull hty) = reference_text false hty
gc_operands (gc.RefCastDescEqNullable hty) = reference_text true hty
gc_operands op = immediates_text (immediates_of (operator.Gc op))

-- The immediates; `indirect_text` for indirect calls, `gc_operands` after 0xfb.
abbrev pub operands_of : Operator → List ℕ
operands_of (operator.CallIndirect type_index table_index) = indirect_text type_index table_index
operands_of (operator.ReturnCallIndirect type_index table_index) = indirect_text type_index table_index
operands_of (operator.Gc op) = gc_operands op
operands_of op = immediates_text (immediates_of op)

-- An operator's name and operands.
abbrev pub text_of : Operator → List ℕ
text_of op = text_name op ++ operands_of op
