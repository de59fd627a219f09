-- Specification: Binary Format, Instructions.
use Rattle.std.specs.Prelude.{ℕ, ◌+◌, ◌*◌, List, [], ◌∷◌, Option, Some, None, map, replicate}
use Rattle.std.specs.Int.{w64, cast_unsigned}
use Rattle.wasm_imm.specs.Immediate.{Immediate, unsigned_32, signed_32, signed_64, float_32, float_64, vector, one_lane, sixteen_lanes, memory_argument, memory_index, table_index_32, order, fence_order, heap_type, cast, block_type, branch_table, select_types, try_clauses, resume_clauses}
use Rattle.wasm_instr.specs.Row.{prefix_of, opcode_of, immediates_of}
use Rattle.wasm_instr.specs.declared.operator.Operator.{Operator}
use Rattle.wasm_imm.specs.declared.select.Select.TheVariants as select
use Rattle.wasm_view.specs.Numbers.{heap_kind, heap_index, reference_kind, value_kind, value_index, block_kind, block_index, target_number, target_index, order_number, ordering_number, count}
use Rattle.wasm_view.specs.declared.view.WasmOperator.{WasmOperator}

-- The opcode; after a prefix byte the subopcode, plus 65536 times that byte.
abbrev pub opcode_number : Option ℕ → ℕ → ℕ
opcode_number None code = code
opcode_number (Some prefix) code = 65536 * prefix + code

-- The C struct with this offset, opcode and shape, and 0 in all other fields.
abbrev pub bare : ℕ → ℕ → ℕ → WasmOperator
bare offset opcode shape = record {
  offset = offset;
  wide = 0;
  opcode = opcode;
  first = 0;
  second = 0;
  third = 0;
  kind = 0;
  other_kind = 0;
  shape = shape;
  align = 0;
  max_align = 0;
  lane = 0;
  target = 0;
  ordering = 0;
  bytes = replicate 16 0;
}

-- The C struct: the immediates determine its shape.
abbrev pub view : ℕ → ℕ → List Immediate → WasmOperator
view offset opcode [] = bare offset opcode 0
view offset opcode (unsigned_32 a ∷ []) = record (bare offset opcode 1) { first = a }
view offset opcode (memory_index a ∷ []) = record (bare offset opcode 1) { first = a }
view offset opcode (unsigned_32 a ∷ unsigned_32 b ∷ []) = record (bare offset opcode 2) { first = a; second = b }
view offset opcode (unsigned_32 a ∷ table_index_32 b ∷ []) = record (bare offset opcode 2) { first = a; second = b }
view offset opcode (memory_argument k max m ∷ []) = record (bare offset opcode 3) {
  wide = m.offset;
  first = target_index m.target;
  align = m.align;
  max_align = m.max_align;
  target = target_number m.target;
  ordering = ordering_number m.ordering;
}
view offset opcode (memory_argument k max m ∷ one_lane lane ∷ []) = record (bare offset opcode 4) {
  wide = m.offset;
  first = target_index m.target;
  align = m.align;
  max_align = m.max_align;
  lane = lane;
  target = target_number m.target;
  ordering = ordering_number m.ordering;
}
view offset opcode (one_lane lane ∷ []) = record (bare offset opcode 5) { lane = lane }
view offset opcode (signed_32 n ∷ []) = record (bare offset opcode 6) { wide = cast_unsigned w64 n }
view offset opcode (signed_64 n ∷ []) = record (bare offset opcode 7) { wide = cast_unsigned w64 n }
view offset opcode (float_32 bits ∷ []) = record (bare offset opcode 8) { wide = bits }
view offset opcode (float_64 bits ∷ []) = record (bare offset opcode 9) { wide = bits }
view offset opcode (vector v ∷ []) = record (bare offset opcode 10) { bytes = v.0 }
view offset opcode (sixteen_lanes lanes ∷ []) = record (bare offset opcode 11) { bytes = lanes }
view offset opcode (order o ∷ unsigned_32 a ∷ []) = record (bare offset opcode 12) { first = a; ordering = order_number o }
view offset opcode (order o ∷ unsigned_32 a ∷ unsigned_32 b ∷ []) = record (bare offset opcode 13) { first = a; second = b; ordering = order_number o }
view offset opcode (fence_order o ∷ []) = record (bare offset opcode 14) { ordering = order_number o }
view offset opcode (heap_type ty ∷ []) = record (bare offset opcode 15) { first = heap_index ty; kind = heap_kind ty }
view offset opcode (cast c ∷ []) = record (bare offset opcode 16) {
  first = c.relative_depth;
  second = heap_index c.from.heap_type;
  third = heap_index c.to.heap_type;
  kind = reference_kind c.from;
  other_kind = reference_kind c.to;
}
view offset opcode (block_type ty ∷ []) = record (bare offset opcode 17) { first = block_index ty; kind = block_kind ty }
view offset opcode (branch_table t ∷ []) = record (bare offset opcode 18) { first = t.count; second = t.default }
view offset opcode (select_types (select.One ty) ∷ []) = record (bare offset opcode 19) { first = value_index ty; kind = value_kind ty }
view offset opcode (select_types (select.Multi tys) ∷ []) = record (bare offset opcode 20) { first = count tys }
view offset opcode (try_clauses t ∷ []) = record (bare offset opcode 21) { first = block_index t.ty; second = count t.catches; kind = block_kind t.ty }
view offset opcode (unsigned_32 a ∷ resume_clauses t ∷ []) = record (bare offset opcode 22) { first = a; second = count t.handlers }
view offset opcode (unsigned_32 a ∷ unsigned_32 b ∷ resume_clauses t ∷ []) = record (bare offset opcode 23) { first = a; second = b; third = count t.handlers }
view offset opcode _ = bare offset opcode 255

-- The C struct of an operator at this offset.
abbrev pub view_of : Operator × ℕ → WasmOperator
view_of p = view p.1 (opcode_number (prefix_of p.0) (opcode_of p.0)) (immediates_of p.0)

abbrev pub views : List (Operator × ℕ) → List WasmOperator
views placed = map view_of placed
