-- Written by tools/lists.py from tools/operators.tsv.
-- The codes whose entries have these kinds, by groups.
use Rattle.std.proofs.Common.{◌≡◌, ℕ, ◌<◌, ◌≤◌, Bool, true, false, List, [], ◌∷◌, Option, Some, None, refl, sym, ap, arith}
use Rattle.wasm_imm.specs.declared.memory_argument.MemArgKind.TheVariants as kind
use Rattle.wasm_imm.specs.Immediate.{Kind, is_unsigned_32, is_signed_32, is_signed_64, is_float_32, is_float_64, is_one_lane, is_sixteen_lanes, is_vector, is_memory_index, is_table_index, is_order, is_fence_order, is_heap_type, is_cast, is_block_type, is_select_types, is_try_clauses, is_resume_clauses, is_memory_argument}
use Rattle.wasm_decode_opcodes.specs.Entry.{unknown, prefixes, free, entry_kinds, align_in}
use Rattle.wasm_decode_opcodes.specs.Entries.{opcode_entries, gc_entries, misc_entries, simd_entries, atomic_entries, entry_at, align_at}
use Rattle.wasm_decode_groups.specs.Arms.{HasArm, HasKindsAt}
use Rattle.wasm_decode_groups.proofs.Ranges.{InRanges, codes_in, unknown_outside, unknown_byte, in_run, is_known, is_other}

abbrev are_none : Option (List Kind) → Bool
are_none (Some ([])) = true
are_none _ = false

abbrev are_block_type : Option (List Kind) → Bool
are_block_type (Some (is_block_type ∷ [])) = true
are_block_type _ = false

abbrev are_unsigned : Option (List Kind) → Bool
are_unsigned (Some (is_unsigned_32 ∷ [])) = true
are_unsigned _ = false

abbrev are_unsigned_table_index : Option (List Kind) → Bool
are_unsigned_table_index (Some (is_unsigned_32 ∷ is_table_index ∷ [])) = true
are_unsigned_table_index _ = false

abbrev are_plain_memory : Option (List Kind) → Bool
are_plain_memory (Some (is_memory_argument kind.Plain align ∷ [])) = true
are_plain_memory _ = false

abbrev are_memory_index : Option (List Kind) → Bool
are_memory_index (Some (is_memory_index ∷ [])) = true
are_memory_index _ = false

abbrev are_signed_32 : Option (List Kind) → Bool
are_signed_32 (Some (is_signed_32 ∷ [])) = true
are_signed_32 _ = false

abbrev are_signed_64 : Option (List Kind) → Bool
are_signed_64 (Some (is_signed_64 ∷ [])) = true
are_signed_64 _ = false

abbrev are_float_32 : Option (List Kind) → Bool
are_float_32 (Some (is_float_32 ∷ [])) = true
are_float_32 _ = false

abbrev are_float_64 : Option (List Kind) → Bool
are_float_64 (Some (is_float_64 ∷ [])) = true
are_float_64 _ = false

abbrev are_heap_type : Option (List Kind) → Bool
are_heap_type (Some (is_heap_type ∷ [])) = true
are_heap_type _ = false

abbrev are_unsigned_unsigned : Option (List Kind) → Bool
are_unsigned_unsigned (Some (is_unsigned_32 ∷ is_unsigned_32 ∷ [])) = true
are_unsigned_unsigned _ = false

abbrev are_cast : Option (List Kind) → Bool
are_cast (Some (is_cast ∷ [])) = true
are_cast _ = false

abbrev are_fence : Option (List Kind) → Bool
are_fence (Some (is_fence_order ∷ [])) = true
are_fence _ = false

abbrev are_op_memory : Option (List Kind) → Bool
are_op_memory (Some (is_memory_argument kind.Op align ∷ [])) = true
are_op_memory _ = false

abbrev are_rmw_memory : Option (List Kind) → Bool
are_rmw_memory (Some (is_memory_argument kind.Rmw align ∷ [])) = true
are_rmw_memory _ = false

abbrev are_ordered_unsigned : Option (List Kind) → Bool
are_ordered_unsigned (Some (is_order ∷ is_unsigned_32 ∷ [])) = true
are_ordered_unsigned _ = false

abbrev are_ordered_unsigned_unsigned : Option (List Kind) → Bool
are_ordered_unsigned_unsigned (Some (is_order ∷ is_unsigned_32 ∷ is_unsigned_32 ∷ [])) = true
are_ordered_unsigned_unsigned _ = false

abbrev are_plain_memory_lane_index : Option (List Kind) → Bool
are_plain_memory_lane_index (Some (is_memory_argument kind.Plain align ∷ is_one_lane ∷ [])) = true
are_plain_memory_lane_index _ = false

abbrev are_vector : Option (List Kind) → Bool
are_vector (Some (is_vector ∷ [])) = true
are_vector _ = false

abbrev are_lane_list : Option (List Kind) → Bool
are_lane_list (Some (is_sixteen_lanes ∷ [])) = true
are_lane_list _ = false

abbrev are_lane_index : Option (List Kind) → Bool
are_lane_index (Some (is_one_lane ∷ [])) = true
are_lane_index _ = false

pub one_byte_without_immediates_codes : (code : ℕ) → HasKindsAt None code (λ bound. []) → InRanges code ((0x00, 0x01) ∷ (0x05, 0x05) ∷ (0x0a, 0x0b) ∷ (0x0f, 0x0f) ∷ (0x19, 0x1b) ∷ (0x45, 0xc4) ∷ (0xd1, 0xd1) ∷ (0xd3, 0xd4) ∷ [])
one_byte_without_immediates_codes code h = codes_in (λ e. are_none (entry_kinds e)) ((0x00, 0x01) ∷ (0x05, 0x05) ∷ (0x0a, 0x0b) ∷ (0x0f, 0x0f) ∷ (0x19, 0x1b) ∷ (0x45, 0xc4) ∷ (0xd1, 0xd1) ∷ (0xd3, 0xd4) ∷ []) opcode_entries code refl refl (ap are_none h)

abbrev one_byte_without_immediates_at : ℕ → Type 0
one_byte_without_immediates_at code = HasArm None code ([]) 0

pub one_byte_without_immediates_00 : (code : ℕ) → 0x00 ≤ code → code ≤ 0x01 → HasArm None code ([]) 0
one_byte_without_immediates_00 code from to = in_run one_byte_without_immediates_at 2 0x00 code ((refl, refl), ((refl, refl), tt)) from (omega arith)

pub one_byte_without_immediates_0a : (code : ℕ) → 0x0a ≤ code → code ≤ 0x0b → HasArm None code ([]) 0
one_byte_without_immediates_0a code from to = in_run one_byte_without_immediates_at 2 0x0a code ((refl, refl), ((refl, refl), tt)) from (omega arith)

pub one_byte_without_immediates_1a : (code : ℕ) → 0x1a ≤ code → code ≤ 0x1b → HasArm None code ([]) 0
one_byte_without_immediates_1a code from to = in_run one_byte_without_immediates_at 2 0x1a code ((refl, refl), ((refl, refl), tt)) from (omega arith)

pub one_byte_without_immediates_d3 : (code : ℕ) → 0xd3 ≤ code → code ≤ 0xd4 → HasArm None code ([]) 0
one_byte_without_immediates_d3 code from to = in_run one_byte_without_immediates_at 2 0xd3 code ((refl, refl), ((refl, refl), tt)) from (omega arith)

pub one_byte_block_type_codes : (code : ℕ) → HasKindsAt None code (λ bound. is_block_type ∷ []) → InRanges code ((0x02, 0x04) ∷ (0x06, 0x06) ∷ [])
one_byte_block_type_codes code h = codes_in (λ e. are_block_type (entry_kinds e)) ((0x02, 0x04) ∷ (0x06, 0x06) ∷ []) opcode_entries code refl refl (ap are_block_type h)

abbrev one_byte_block_type_at : ℕ → Type 0
one_byte_block_type_at code = HasArm None code (is_block_type ∷ []) 0

pub one_byte_block_type_02 : (code : ℕ) → 0x02 ≤ code → code ≤ 0x04 → HasArm None code (is_block_type ∷ []) 0
one_byte_block_type_02 code from to = in_run one_byte_block_type_at 3 0x02 code ((refl, refl), ((refl, refl), ((refl, refl), tt))) from (omega arith)

pub one_byte_unsigned_codes : (code : ℕ) → HasKindsAt None code (λ bound. is_unsigned_32 ∷ []) → InRanges code ((0x07, 0x09) ∷ (0x0c, 0x0d) ∷ (0x10, 0x10) ∷ (0x12, 0x12) ∷ (0x14, 0x15) ∷ (0x18, 0x18) ∷ (0x20, 0x26) ∷ (0xd2, 0xd2) ∷ (0xd5, 0xd6) ∷ (0xe0, 0xe0) ∷ (0xe2, 0xe2) ∷ [])
one_byte_unsigned_codes code h = codes_in (λ e. are_unsigned (entry_kinds e)) ((0x07, 0x09) ∷ (0x0c, 0x0d) ∷ (0x10, 0x10) ∷ (0x12, 0x12) ∷ (0x14, 0x15) ∷ (0x18, 0x18) ∷ (0x20, 0x26) ∷ (0xd2, 0xd2) ∷ (0xd5, 0xd6) ∷ (0xe0, 0xe0) ∷ (0xe2, 0xe2) ∷ []) opcode_entries code refl refl (ap are_unsigned h)

abbrev one_byte_unsigned_at : ℕ → Type 0
one_byte_unsigned_at code = HasArm None code (is_unsigned_32 ∷ []) 0

pub one_byte_unsigned_08 : (code : ℕ) → 0x08 ≤ code → code ≤ 0x09 → HasArm None code (is_unsigned_32 ∷ []) 0
one_byte_unsigned_08 code from to = in_run one_byte_unsigned_at 2 0x08 code ((refl, refl), ((refl, refl), tt)) from (omega arith)

pub one_byte_unsigned_0c : (code : ℕ) → 0x0c ≤ code → code ≤ 0x0d → HasArm None code (is_unsigned_32 ∷ []) 0
one_byte_unsigned_0c code from to = in_run one_byte_unsigned_at 2 0x0c code ((refl, refl), ((refl, refl), tt)) from (omega arith)

pub one_byte_unsigned_14 : (code : ℕ) → 0x14 ≤ code → code ≤ 0x15 → HasArm None code (is_unsigned_32 ∷ []) 0
one_byte_unsigned_14 code from to = in_run one_byte_unsigned_at 2 0x14 code ((refl, refl), ((refl, refl), tt)) from (omega arith)

pub one_byte_unsigned_20 : (code : ℕ) → 0x20 ≤ code → code ≤ 0x26 → HasArm None code (is_unsigned_32 ∷ []) 0
one_byte_unsigned_20 code from to = in_run one_byte_unsigned_at 7 0x20 code ((refl, refl), ((refl, refl), ((refl, refl), ((refl, refl), ((refl, refl), ((refl, refl), ((refl, refl), tt))))))) from (omega arith)

pub one_byte_unsigned_d5 : (code : ℕ) → 0xd5 ≤ code → code ≤ 0xd6 → HasArm None code (is_unsigned_32 ∷ []) 0
one_byte_unsigned_d5 code from to = in_run one_byte_unsigned_at 2 0xd5 code ((refl, refl), ((refl, refl), tt)) from (omega arith)

pub one_byte_unsigned_table_index_codes : (code : ℕ) → HasKindsAt None code (λ bound. is_unsigned_32 ∷ is_table_index ∷ []) → InRanges code ((0x11, 0x11) ∷ [])
one_byte_unsigned_table_index_codes code h = codes_in (λ e. are_unsigned_table_index (entry_kinds e)) ((0x11, 0x11) ∷ []) opcode_entries code refl refl (ap are_unsigned_table_index h)

pub one_byte_memory_codes : (code : ℕ) → HasKindsAt None code (λ bound. is_memory_argument kind.Plain bound ∷ []) → InRanges code ((0x28, 0x3e) ∷ [])
one_byte_memory_codes code h = codes_in (λ e. are_plain_memory (entry_kinds e)) ((0x28, 0x3e) ∷ []) opcode_entries code refl refl (ap are_plain_memory h)

abbrev one_byte_memory_at : ℕ → Type 0
one_byte_memory_at code = HasArm None code (is_memory_argument kind.Plain (align_at None code) ∷ []) (align_at None code)

pub one_byte_memory_28 : (code : ℕ) → 0x28 ≤ code → code ≤ 0x3e → HasArm None code (is_memory_argument kind.Plain (align_at None code) ∷ []) (align_at None code)
one_byte_memory_28 code from to = in_run one_byte_memory_at 23 0x28 code ((refl, refl), ((refl, refl), ((refl, refl), ((refl, refl), ((refl, refl), ((refl, refl), ((refl, refl), ((refl, refl), ((refl, refl), ((refl, refl), ((refl, refl), ((refl, refl), ((refl, refl), ((refl, refl), ((refl, refl), ((refl, refl), ((refl, refl), ((refl, refl), ((refl, refl), ((refl, refl), ((refl, refl), ((refl, refl), ((refl, refl), tt))))))))))))))))))))))) from (omega arith)

pub one_byte_memory_index_codes : (code : ℕ) → HasKindsAt None code (λ bound. is_memory_index ∷ []) → InRanges code ((0x3f, 0x40) ∷ [])
one_byte_memory_index_codes code h = codes_in (λ e. are_memory_index (entry_kinds e)) ((0x3f, 0x40) ∷ []) opcode_entries code refl refl (ap are_memory_index h)

abbrev one_byte_memory_index_at : ℕ → Type 0
one_byte_memory_index_at code = HasArm None code (is_memory_index ∷ []) 0

pub one_byte_memory_index_3f : (code : ℕ) → 0x3f ≤ code → code ≤ 0x40 → HasArm None code (is_memory_index ∷ []) 0
one_byte_memory_index_3f code from to = in_run one_byte_memory_index_at 2 0x3f code ((refl, refl), ((refl, refl), tt)) from (omega arith)

pub one_byte_signed_32_codes : (code : ℕ) → HasKindsAt None code (λ bound. is_signed_32 ∷ []) → InRanges code ((0x41, 0x41) ∷ [])
one_byte_signed_32_codes code h = codes_in (λ e. are_signed_32 (entry_kinds e)) ((0x41, 0x41) ∷ []) opcode_entries code refl refl (ap are_signed_32 h)

pub one_byte_signed_64_codes : (code : ℕ) → HasKindsAt None code (λ bound. is_signed_64 ∷ []) → InRanges code ((0x42, 0x42) ∷ [])
one_byte_signed_64_codes code h = codes_in (λ e. are_signed_64 (entry_kinds e)) ((0x42, 0x42) ∷ []) opcode_entries code refl refl (ap are_signed_64 h)

pub one_byte_float_32_codes : (code : ℕ) → HasKindsAt None code (λ bound. is_float_32 ∷ []) → InRanges code ((0x43, 0x43) ∷ [])
one_byte_float_32_codes code h = codes_in (λ e. are_float_32 (entry_kinds e)) ((0x43, 0x43) ∷ []) opcode_entries code refl refl (ap are_float_32 h)

pub one_byte_float_64_codes : (code : ℕ) → HasKindsAt None code (λ bound. is_float_64 ∷ []) → InRanges code ((0x44, 0x44) ∷ [])
one_byte_float_64_codes code h = codes_in (λ e. are_float_64 (entry_kinds e)) ((0x44, 0x44) ∷ []) opcode_entries code refl refl (ap are_float_64 h)

pub one_byte_heap_type_codes : (code : ℕ) → HasKindsAt None code (λ bound. is_heap_type ∷ []) → InRanges code ((0xd0, 0xd0) ∷ [])
one_byte_heap_type_codes code h = codes_in (λ e. are_heap_type (entry_kinds e)) ((0xd0, 0xd0) ∷ []) opcode_entries code refl refl (ap are_heap_type h)

pub one_byte_unsigned_unsigned_codes : (code : ℕ) → HasKindsAt None code (λ bound. is_unsigned_32 ∷ is_unsigned_32 ∷ []) → InRanges code ((0x13, 0x13) ∷ (0xe1, 0xe1) ∷ (0xe6, 0xe6) ∷ [])
one_byte_unsigned_unsigned_codes code h = codes_in (λ e. are_unsigned_unsigned (entry_kinds e)) ((0x13, 0x13) ∷ (0xe1, 0xe1) ∷ (0xe6, 0xe6) ∷ []) opcode_entries code refl refl (ap are_unsigned_unsigned h)

pub one_byte_unknown : (code : ℕ) → (entry_at None code ≡ prefixes → ⊥) → (InRanges code ((0x00, 0x15) ∷ (0x18, 0x1c) ∷ (0x1c, 0x1c) ∷ (0x1f, 0x26) ∷ (0x28, 0xc4) ∷ (0xd0, 0xd6) ∷ (0xe0, 0xe6) ∷ []) → ⊥) → entry_at None code ≡ unknown
one_byte_unknown code apart outside = unknown_byte ((0x00, 0x15) ∷ (0x18, 0x1c) ∷ (0x1c, 0x1c) ∷ (0x1f, 0x26) ∷ (0x28, 0xc4) ∷ (0xd0, 0xd6) ∷ (0xe0, 0xe6) ∷ []) opcode_entries code refl apart outside

abbrev are_select : Option (List Kind) → Bool
are_select (Some (is_select_types ∷ [])) = true
are_select _ = false

pub select_codes : (code : ℕ) → entry_kinds (entry_at None code) ≡ Some (is_select_types ∷ []) → InRanges code ((0x1c, 0x1c) ∷ [])
select_codes code h = codes_in (λ e. are_select (entry_kinds e)) ((0x1c, 0x1c) ∷ []) opcode_entries code refl refl (ap are_select h)

abbrev are_try_table : Option (List Kind) → Bool
are_try_table (Some (is_try_clauses ∷ [])) = true
are_try_table _ = false

pub try_table_codes : (code : ℕ) → entry_kinds (entry_at None code) ≡ Some (is_try_clauses ∷ []) → InRanges code ((0x1f, 0x1f) ∷ [])
try_table_codes code h = codes_in (λ e. are_try_table (entry_kinds e)) ((0x1f, 0x1f) ∷ []) opcode_entries code refl refl (ap are_try_table h)

abbrev are_resume : Option (List Kind) → Bool
are_resume (Some (is_unsigned_32 ∷ is_resume_clauses ∷ [])) = true
are_resume _ = false

pub resume_codes : (code : ℕ) → entry_kinds (entry_at None code) ≡ Some (is_unsigned_32 ∷ is_resume_clauses ∷ []) → InRanges code ((0xe3, 0xe3) ∷ (0xe5, 0xe5) ∷ [])
resume_codes code h = codes_in (λ e. are_resume (entry_kinds e)) ((0xe3, 0xe3) ∷ (0xe5, 0xe5) ∷ []) opcode_entries code refl refl (ap are_resume h)

abbrev are_resume_throw : Option (List Kind) → Bool
are_resume_throw (Some (is_unsigned_32 ∷ is_unsigned_32 ∷ is_resume_clauses ∷ [])) = true
are_resume_throw _ = false

pub resume_throw_codes : (code : ℕ) → entry_kinds (entry_at None code) ≡ Some (is_unsigned_32 ∷ is_unsigned_32 ∷ is_resume_clauses ∷ []) → InRanges code ((0xe4, 0xe4) ∷ [])
resume_throw_codes code h = codes_in (λ e. are_resume_throw (entry_kinds e)) ((0xe4, 0xe4) ∷ []) opcode_entries code refl refl (ap are_resume_throw h)

abbrev numeric_without_immediates_at : ℕ → Type 0
numeric_without_immediates_at code = HasArm None code ([]) 0

pub numeric_without_immediates_45 : (code : ℕ) → 0x45 ≤ code → code ≤ 0xc4 → HasArm None code ([]) 0
numeric_without_immediates_45 code from to = in_run numeric_without_immediates_at 128 0x45 code ((refl, refl), ((refl, refl), ((refl, refl), ((refl, refl), ((refl, refl), ((refl, refl), ((refl, refl), ((refl, refl), ((refl, refl), ((refl, refl), ((refl, refl), ((refl, refl), ((refl, refl), ((refl, refl), ((refl, refl), ((refl, refl), ((refl, refl), ((refl, refl), ((refl, refl), ((refl, refl), ((refl, refl), ((refl, refl), ((refl, refl), ((refl, refl), ((refl, refl), ((refl, refl), ((refl, refl), ((refl, refl), ((refl, refl), ((refl, refl), ((refl, refl), ((refl, refl), ((refl, refl), ((refl, refl), ((refl, refl), ((refl, refl), ((refl, refl), ((refl, refl), ((refl, refl), ((refl, refl), ((refl, refl), ((refl, refl), ((refl, refl), ((refl, refl), ((refl, refl), ((refl, refl), ((refl, refl), ((refl, refl), ((refl, refl), ((refl, refl), ((refl, refl), ((refl, refl), ((refl, refl), ((refl, refl), ((refl, refl), ((refl, refl), ((refl, refl), ((refl, refl), ((refl, refl), ((refl, refl), ((refl, refl), ((refl, refl), ((refl, refl), ((refl, refl), ((refl, refl), ((refl, refl), ((refl, refl), ((refl, refl), ((refl, refl), ((refl, refl), ((refl, refl), ((refl, refl), ((refl, refl), ((refl, refl), ((refl, refl), ((refl, refl), ((refl, refl), ((refl, refl), ((refl, refl), ((refl, refl), ((refl, refl), ((refl, refl), ((refl, refl), ((refl, refl), ((refl, refl), ((refl, refl), ((refl, refl), ((refl, refl), ((refl, refl), ((refl, refl), ((refl, refl), ((refl, refl), ((refl, refl), ((refl, refl), ((refl, refl), ((refl, refl), ((refl, refl), ((refl, refl), ((refl, refl), ((refl, refl), ((refl, refl), ((refl, refl), ((refl, refl), ((refl, refl), ((refl, refl), ((refl, refl), ((refl, refl), ((refl, refl), ((refl, refl), ((refl, refl), ((refl, refl), ((refl, refl), ((refl, refl), ((refl, refl), ((refl, refl), ((refl, refl), ((refl, refl), ((refl, refl), ((refl, refl), ((refl, refl), ((refl, refl), ((refl, refl), ((refl, refl), ((refl, refl), ((refl, refl), ((refl, refl), ((refl, refl), ((refl, refl), tt)))))))))))))))))))))))))))))))))))))))))))))))))))))))))))))))))))))))))))))))))))))))))))))))))))))))))))))))))))))))))))))))) from (omega arith)

pub gc_unsigned_codes : (code : ℕ) → HasKindsAt (Some 0xfb) code (λ bound. is_unsigned_32 ∷ []) → InRanges code ((0x00, 0x01) ∷ (0x06, 0x07) ∷ (0x0b, 0x0e) ∷ (0x10, 0x10) ∷ (0x20, 0x22) ∷ [])
gc_unsigned_codes code h = codes_in (λ e. are_unsigned (entry_kinds e)) ((0x00, 0x01) ∷ (0x06, 0x07) ∷ (0x0b, 0x0e) ∷ (0x10, 0x10) ∷ (0x20, 0x22) ∷ []) gc_entries code refl refl (ap are_unsigned h)

abbrev gc_unsigned_at : ℕ → Type 0
gc_unsigned_at code = HasArm (Some 0xfb) code (is_unsigned_32 ∷ []) 0

pub gc_unsigned_00 : (code : ℕ) → 0x00 ≤ code → code ≤ 0x01 → HasArm (Some 0xfb) code (is_unsigned_32 ∷ []) 0
gc_unsigned_00 code from to = in_run gc_unsigned_at 2 0x00 code ((refl, refl), ((refl, refl), tt)) from (omega arith)

pub gc_unsigned_06 : (code : ℕ) → 0x06 ≤ code → code ≤ 0x07 → HasArm (Some 0xfb) code (is_unsigned_32 ∷ []) 0
gc_unsigned_06 code from to = in_run gc_unsigned_at 2 0x06 code ((refl, refl), ((refl, refl), tt)) from (omega arith)

pub gc_unsigned_0b : (code : ℕ) → 0x0b ≤ code → code ≤ 0x0e → HasArm (Some 0xfb) code (is_unsigned_32 ∷ []) 0
gc_unsigned_0b code from to = in_run gc_unsigned_at 4 0x0b code ((refl, refl), ((refl, refl), ((refl, refl), ((refl, refl), tt)))) from (omega arith)

pub gc_unsigned_20 : (code : ℕ) → 0x20 ≤ code → code ≤ 0x22 → HasArm (Some 0xfb) code (is_unsigned_32 ∷ []) 0
gc_unsigned_20 code from to = in_run gc_unsigned_at 3 0x20 code ((refl, refl), ((refl, refl), ((refl, refl), tt))) from (omega arith)

pub gc_unsigned_unsigned_codes : (code : ℕ) → HasKindsAt (Some 0xfb) code (λ bound. is_unsigned_32 ∷ is_unsigned_32 ∷ []) → InRanges code ((0x02, 0x05) ∷ (0x08, 0x0a) ∷ (0x11, 0x13) ∷ [])
gc_unsigned_unsigned_codes code h = codes_in (λ e. are_unsigned_unsigned (entry_kinds e)) ((0x02, 0x05) ∷ (0x08, 0x0a) ∷ (0x11, 0x13) ∷ []) gc_entries code refl refl (ap are_unsigned_unsigned h)

abbrev gc_unsigned_unsigned_at : ℕ → Type 0
gc_unsigned_unsigned_at code = HasArm (Some 0xfb) code (is_unsigned_32 ∷ is_unsigned_32 ∷ []) 0

pub gc_unsigned_unsigned_02 : (code : ℕ) → 0x02 ≤ code → code ≤ 0x05 → HasArm (Some 0xfb) code (is_unsigned_32 ∷ is_unsigned_32 ∷ []) 0
gc_unsigned_unsigned_02 code from to = in_run gc_unsigned_unsigned_at 4 0x02 code ((refl, refl), ((refl, refl), ((refl, refl), ((refl, refl), tt)))) from (omega arith)

pub gc_unsigned_unsigned_08 : (code : ℕ) → 0x08 ≤ code → code ≤ 0x0a → HasArm (Some 0xfb) code (is_unsigned_32 ∷ is_unsigned_32 ∷ []) 0
gc_unsigned_unsigned_08 code from to = in_run gc_unsigned_unsigned_at 3 0x08 code ((refl, refl), ((refl, refl), ((refl, refl), tt))) from (omega arith)

pub gc_unsigned_unsigned_11 : (code : ℕ) → 0x11 ≤ code → code ≤ 0x13 → HasArm (Some 0xfb) code (is_unsigned_32 ∷ is_unsigned_32 ∷ []) 0
gc_unsigned_unsigned_11 code from to = in_run gc_unsigned_unsigned_at 3 0x11 code ((refl, refl), ((refl, refl), ((refl, refl), tt))) from (omega arith)

pub gc_without_immediates_codes : (code : ℕ) → HasKindsAt (Some 0xfb) code (λ bound. []) → InRanges code ((0x0f, 0x0f) ∷ (0x1a, 0x1e) ∷ [])
gc_without_immediates_codes code h = codes_in (λ e. are_none (entry_kinds e)) ((0x0f, 0x0f) ∷ (0x1a, 0x1e) ∷ []) gc_entries code refl refl (ap are_none h)

abbrev gc_without_immediates_at : ℕ → Type 0
gc_without_immediates_at code = HasArm (Some 0xfb) code ([]) 0

pub gc_without_immediates_1a : (code : ℕ) → 0x1a ≤ code → code ≤ 0x1e → HasArm (Some 0xfb) code ([]) 0
gc_without_immediates_1a code from to = in_run gc_without_immediates_at 5 0x1a code ((refl, refl), ((refl, refl), ((refl, refl), ((refl, refl), ((refl, refl), tt))))) from (omega arith)

pub gc_heap_type_codes : (code : ℕ) → HasKindsAt (Some 0xfb) code (λ bound. is_heap_type ∷ []) → InRanges code ((0x14, 0x17) ∷ (0x23, 0x24) ∷ [])
gc_heap_type_codes code h = codes_in (λ e. are_heap_type (entry_kinds e)) ((0x14, 0x17) ∷ (0x23, 0x24) ∷ []) gc_entries code refl refl (ap are_heap_type h)

abbrev gc_heap_type_at : ℕ → Type 0
gc_heap_type_at code = HasArm (Some 0xfb) code (is_heap_type ∷ []) 0

pub gc_heap_type_14 : (code : ℕ) → 0x14 ≤ code → code ≤ 0x17 → HasArm (Some 0xfb) code (is_heap_type ∷ []) 0
gc_heap_type_14 code from to = in_run gc_heap_type_at 4 0x14 code ((refl, refl), ((refl, refl), ((refl, refl), ((refl, refl), tt)))) from (omega arith)

pub gc_heap_type_23 : (code : ℕ) → 0x23 ≤ code → code ≤ 0x24 → HasArm (Some 0xfb) code (is_heap_type ∷ []) 0
gc_heap_type_23 code from to = in_run gc_heap_type_at 2 0x23 code ((refl, refl), ((refl, refl), tt)) from (omega arith)

pub gc_cast_codes : (code : ℕ) → HasKindsAt (Some 0xfb) code (λ bound. is_cast ∷ []) → InRanges code ((0x18, 0x19) ∷ (0x25, 0x26) ∷ [])
gc_cast_codes code h = codes_in (λ e. are_cast (entry_kinds e)) ((0x18, 0x19) ∷ (0x25, 0x26) ∷ []) gc_entries code refl refl (ap are_cast h)

abbrev gc_cast_at : ℕ → Type 0
gc_cast_at code = HasArm (Some 0xfb) code (is_cast ∷ []) 0

pub gc_cast_18 : (code : ℕ) → 0x18 ≤ code → code ≤ 0x19 → HasArm (Some 0xfb) code (is_cast ∷ []) 0
gc_cast_18 code from to = in_run gc_cast_at 2 0x18 code ((refl, refl), ((refl, refl), tt)) from (omega arith)

pub gc_cast_25 : (code : ℕ) → 0x25 ≤ code → code ≤ 0x26 → HasArm (Some 0xfb) code (is_cast ∷ []) 0
gc_cast_25 code from to = in_run gc_cast_at 2 0x25 code ((refl, refl), ((refl, refl), tt)) from (omega arith)

pub gc_unknown : (code : ℕ) → (InRanges code ((0x00, 0x1e) ∷ (0x20, 0x26) ∷ []) → ⊥) → entry_at (Some 0xfb) code ≡ unknown
gc_unknown code outside = unknown_outside ((0x00, 0x1e) ∷ (0x20, 0x26) ∷ []) gc_entries code refl outside

pub misc_without_immediates_codes : (code : ℕ) → HasKindsAt (Some 0xfc) code (λ bound. []) → InRanges code ((0x00, 0x07) ∷ (0x13, 0x16) ∷ [])
misc_without_immediates_codes code h = codes_in (λ e. are_none (entry_kinds e)) ((0x00, 0x07) ∷ (0x13, 0x16) ∷ []) misc_entries code refl refl (ap are_none h)

abbrev misc_without_immediates_at : ℕ → Type 0
misc_without_immediates_at code = HasArm (Some 0xfc) code ([]) 0

pub misc_without_immediates_00 : (code : ℕ) → 0x00 ≤ code → code ≤ 0x07 → HasArm (Some 0xfc) code ([]) 0
misc_without_immediates_00 code from to = in_run misc_without_immediates_at 8 0x00 code ((refl, refl), ((refl, refl), ((refl, refl), ((refl, refl), ((refl, refl), ((refl, refl), ((refl, refl), ((refl, refl), tt)))))))) from (omega arith)

pub misc_without_immediates_13 : (code : ℕ) → 0x13 ≤ code → code ≤ 0x16 → HasArm (Some 0xfc) code ([]) 0
misc_without_immediates_13 code from to = in_run misc_without_immediates_at 4 0x13 code ((refl, refl), ((refl, refl), ((refl, refl), ((refl, refl), tt)))) from (omega arith)

pub misc_unsigned_unsigned_codes : (code : ℕ) → HasKindsAt (Some 0xfc) code (λ bound. is_unsigned_32 ∷ is_unsigned_32 ∷ []) → InRanges code ((0x08, 0x08) ∷ (0x0a, 0x0a) ∷ (0x0c, 0x0c) ∷ (0x0e, 0x0e) ∷ [])
misc_unsigned_unsigned_codes code h = codes_in (λ e. are_unsigned_unsigned (entry_kinds e)) ((0x08, 0x08) ∷ (0x0a, 0x0a) ∷ (0x0c, 0x0c) ∷ (0x0e, 0x0e) ∷ []) misc_entries code refl refl (ap are_unsigned_unsigned h)

pub misc_unsigned_codes : (code : ℕ) → HasKindsAt (Some 0xfc) code (λ bound. is_unsigned_32 ∷ []) → InRanges code ((0x09, 0x09) ∷ (0x0b, 0x0b) ∷ (0x0d, 0x0d) ∷ (0x0f, 0x12) ∷ [])
misc_unsigned_codes code h = codes_in (λ e. are_unsigned (entry_kinds e)) ((0x09, 0x09) ∷ (0x0b, 0x0b) ∷ (0x0d, 0x0d) ∷ (0x0f, 0x12) ∷ []) misc_entries code refl refl (ap are_unsigned h)

abbrev misc_unsigned_at : ℕ → Type 0
misc_unsigned_at code = HasArm (Some 0xfc) code (is_unsigned_32 ∷ []) 0

pub misc_unsigned_0f : (code : ℕ) → 0x0f ≤ code → code ≤ 0x12 → HasArm (Some 0xfc) code (is_unsigned_32 ∷ []) 0
misc_unsigned_0f code from to = in_run misc_unsigned_at 4 0x0f code ((refl, refl), ((refl, refl), ((refl, refl), ((refl, refl), tt)))) from (omega arith)

pub misc_unknown : (code : ℕ) → (InRanges code ((0x00, 0x16) ∷ []) → ⊥) → entry_at (Some 0xfc) code ≡ unknown
misc_unknown code outside = unknown_outside ((0x00, 0x16) ∷ []) misc_entries code refl outside

pub atomic_memory_codes : (code : ℕ) → HasKindsAt (Some 0xfe) code (λ bound. is_memory_argument kind.Plain bound ∷ []) → InRanges code ((0x00, 0x02) ∷ [])
atomic_memory_codes code h = codes_in (λ e. are_plain_memory (entry_kinds e)) ((0x00, 0x02) ∷ []) atomic_entries code refl refl (ap are_plain_memory h)

abbrev atomic_memory_at : ℕ → Type 0
atomic_memory_at code = HasArm (Some 0xfe) code (is_memory_argument kind.Plain (align_at (Some 0xfe) code) ∷ []) (align_at (Some 0xfe) code)

pub atomic_memory_00 : (code : ℕ) → 0x00 ≤ code → code ≤ 0x02 → HasArm (Some 0xfe) code (is_memory_argument kind.Plain (align_at (Some 0xfe) code) ∷ []) (align_at (Some 0xfe) code)
atomic_memory_00 code from to = in_run atomic_memory_at 3 0x00 code ((refl, refl), ((refl, refl), ((refl, refl), tt))) from (omega arith)

pub atomic_fence_codes : (code : ℕ) → HasKindsAt (Some 0xfe) code (λ bound. is_fence_order ∷ []) → InRanges code ((0x03, 0x03) ∷ [])
atomic_fence_codes code h = codes_in (λ e. are_fence (entry_kinds e)) ((0x03, 0x03) ∷ []) atomic_entries code refl refl (ap are_fence h)

pub atomic_memory_op_codes : (code : ℕ) → HasKindsAt (Some 0xfe) code (λ bound. is_memory_argument kind.Op bound ∷ []) → InRanges code ((0x10, 0x1d) ∷ [])
atomic_memory_op_codes code h = codes_in (λ e. are_op_memory (entry_kinds e)) ((0x10, 0x1d) ∷ []) atomic_entries code refl refl (ap are_op_memory h)

abbrev atomic_memory_op_at : ℕ → Type 0
atomic_memory_op_at code = HasArm (Some 0xfe) code (is_memory_argument kind.Op (align_at (Some 0xfe) code) ∷ []) (align_at (Some 0xfe) code)

pub atomic_memory_op_10 : (code : ℕ) → 0x10 ≤ code → code ≤ 0x1d → HasArm (Some 0xfe) code (is_memory_argument kind.Op (align_at (Some 0xfe) code) ∷ []) (align_at (Some 0xfe) code)
atomic_memory_op_10 code from to = in_run atomic_memory_op_at 14 0x10 code ((refl, refl), ((refl, refl), ((refl, refl), ((refl, refl), ((refl, refl), ((refl, refl), ((refl, refl), ((refl, refl), ((refl, refl), ((refl, refl), ((refl, refl), ((refl, refl), ((refl, refl), ((refl, refl), tt)))))))))))))) from (omega arith)

pub atomic_memory_rmw_codes : (code : ℕ) → HasKindsAt (Some 0xfe) code (λ bound. is_memory_argument kind.Rmw bound ∷ []) → InRanges code ((0x1e, 0x4e) ∷ [])
atomic_memory_rmw_codes code h = codes_in (λ e. are_rmw_memory (entry_kinds e)) ((0x1e, 0x4e) ∷ []) atomic_entries code refl refl (ap are_rmw_memory h)

abbrev atomic_memory_rmw_at : ℕ → Type 0
atomic_memory_rmw_at code = HasArm (Some 0xfe) code (is_memory_argument kind.Rmw (align_at (Some 0xfe) code) ∷ []) (align_at (Some 0xfe) code)

pub atomic_memory_rmw_1e : (code : ℕ) → 0x1e ≤ code → code ≤ 0x4e → HasArm (Some 0xfe) code (is_memory_argument kind.Rmw (align_at (Some 0xfe) code) ∷ []) (align_at (Some 0xfe) code)
atomic_memory_rmw_1e code from to = in_run atomic_memory_rmw_at 49 0x1e code ((refl, refl), ((refl, refl), ((refl, refl), ((refl, refl), ((refl, refl), ((refl, refl), ((refl, refl), ((refl, refl), ((refl, refl), ((refl, refl), ((refl, refl), ((refl, refl), ((refl, refl), ((refl, refl), ((refl, refl), ((refl, refl), ((refl, refl), ((refl, refl), ((refl, refl), ((refl, refl), ((refl, refl), ((refl, refl), ((refl, refl), ((refl, refl), ((refl, refl), ((refl, refl), ((refl, refl), ((refl, refl), ((refl, refl), ((refl, refl), ((refl, refl), ((refl, refl), ((refl, refl), ((refl, refl), ((refl, refl), ((refl, refl), ((refl, refl), ((refl, refl), ((refl, refl), ((refl, refl), ((refl, refl), ((refl, refl), ((refl, refl), ((refl, refl), ((refl, refl), ((refl, refl), ((refl, refl), ((refl, refl), ((refl, refl), tt))))))))))))))))))))))))))))))))))))))))))))))))) from (omega arith)

pub atomic_ordered_unsigned_codes : (code : ℕ) → HasKindsAt (Some 0xfe) code (λ bound. is_order ∷ is_unsigned_32 ∷ []) → InRanges code ((0x4f, 0x5b) ∷ (0x67, 0x71) ∷ [])
atomic_ordered_unsigned_codes code h = codes_in (λ e. are_ordered_unsigned (entry_kinds e)) ((0x4f, 0x5b) ∷ (0x67, 0x71) ∷ []) atomic_entries code refl refl (ap are_ordered_unsigned h)

abbrev atomic_ordered_unsigned_at : ℕ → Type 0
atomic_ordered_unsigned_at code = HasArm (Some 0xfe) code (is_order ∷ is_unsigned_32 ∷ []) 0

pub atomic_ordered_unsigned_4f : (code : ℕ) → 0x4f ≤ code → code ≤ 0x5b → HasArm (Some 0xfe) code (is_order ∷ is_unsigned_32 ∷ []) 0
atomic_ordered_unsigned_4f code from to = in_run atomic_ordered_unsigned_at 13 0x4f code ((refl, refl), ((refl, refl), ((refl, refl), ((refl, refl), ((refl, refl), ((refl, refl), ((refl, refl), ((refl, refl), ((refl, refl), ((refl, refl), ((refl, refl), ((refl, refl), ((refl, refl), tt))))))))))))) from (omega arith)

pub atomic_ordered_unsigned_67 : (code : ℕ) → 0x67 ≤ code → code ≤ 0x71 → HasArm (Some 0xfe) code (is_order ∷ is_unsigned_32 ∷ []) 0
atomic_ordered_unsigned_67 code from to = in_run atomic_ordered_unsigned_at 11 0x67 code ((refl, refl), ((refl, refl), ((refl, refl), ((refl, refl), ((refl, refl), ((refl, refl), ((refl, refl), ((refl, refl), ((refl, refl), ((refl, refl), ((refl, refl), tt))))))))))) from (omega arith)

pub atomic_ordered_unsigned_unsigned_codes : (code : ℕ) → HasKindsAt (Some 0xfe) code (λ bound. is_order ∷ is_unsigned_32 ∷ is_unsigned_32 ∷ []) → InRanges code ((0x5c, 0x66) ∷ [])
atomic_ordered_unsigned_unsigned_codes code h = codes_in (λ e. are_ordered_unsigned_unsigned (entry_kinds e)) ((0x5c, 0x66) ∷ []) atomic_entries code refl refl (ap are_ordered_unsigned_unsigned h)

abbrev atomic_ordered_unsigned_unsigned_at : ℕ → Type 0
atomic_ordered_unsigned_unsigned_at code = HasArm (Some 0xfe) code (is_order ∷ is_unsigned_32 ∷ is_unsigned_32 ∷ []) 0

pub atomic_ordered_unsigned_unsigned_5c : (code : ℕ) → 0x5c ≤ code → code ≤ 0x66 → HasArm (Some 0xfe) code (is_order ∷ is_unsigned_32 ∷ is_unsigned_32 ∷ []) 0
atomic_ordered_unsigned_unsigned_5c code from to = in_run atomic_ordered_unsigned_unsigned_at 11 0x5c code ((refl, refl), ((refl, refl), ((refl, refl), ((refl, refl), ((refl, refl), ((refl, refl), ((refl, refl), ((refl, refl), ((refl, refl), ((refl, refl), ((refl, refl), tt))))))))))) from (omega arith)

pub atomic_without_immediates_codes : (code : ℕ) → HasKindsAt (Some 0xfe) code (λ bound. []) → InRanges code ((0x04, 0x04) ∷ (0x72, 0x72) ∷ [])
atomic_without_immediates_codes code h = codes_in (λ e. are_none (entry_kinds e)) ((0x04, 0x04) ∷ (0x72, 0x72) ∷ []) atomic_entries code refl refl (ap are_none h)

pub atomic_unknown : (code : ℕ) → (InRanges code ((0x00, 0x04) ∷ (0x10, 0x72) ∷ []) → ⊥) → entry_at (Some 0xfe) code ≡ unknown
atomic_unknown code outside = unknown_outside ((0x00, 0x04) ∷ (0x10, 0x72) ∷ []) atomic_entries code refl outside

pub simd_low_memory_codes : (code : ℕ) → HasKindsAt (Some 0xfd) code (λ bound. is_memory_argument kind.Plain bound ∷ []) → InRanges code ((0x00, 0x0b) ∷ (0x5c, 0x5d) ∷ [])
simd_low_memory_codes code h = codes_in (λ e. are_plain_memory (entry_kinds e)) ((0x00, 0x0b) ∷ (0x5c, 0x5d) ∷ []) simd_entries code refl refl (ap are_plain_memory h)

abbrev simd_low_memory_at : ℕ → Type 0
simd_low_memory_at code = HasArm (Some 0xfd) code (is_memory_argument kind.Plain (align_at (Some 0xfd) code) ∷ []) (align_at (Some 0xfd) code)

pub simd_low_memory_00 : (code : ℕ) → 0x00 ≤ code → code ≤ 0x0b → HasArm (Some 0xfd) code (is_memory_argument kind.Plain (align_at (Some 0xfd) code) ∷ []) (align_at (Some 0xfd) code)
simd_low_memory_00 code from to = in_run simd_low_memory_at 12 0x00 code ((refl, refl), ((refl, refl), ((refl, refl), ((refl, refl), ((refl, refl), ((refl, refl), ((refl, refl), ((refl, refl), ((refl, refl), ((refl, refl), ((refl, refl), ((refl, refl), tt)))))))))))) from (omega arith)

pub simd_low_memory_5c : (code : ℕ) → 0x5c ≤ code → code ≤ 0x5d → HasArm (Some 0xfd) code (is_memory_argument kind.Plain (align_at (Some 0xfd) code) ∷ []) (align_at (Some 0xfd) code)
simd_low_memory_5c code from to = in_run simd_low_memory_at 2 0x5c code ((refl, refl), ((refl, refl), tt)) from (omega arith)

pub simd_low_memory_lane_index_codes : (code : ℕ) → HasKindsAt (Some 0xfd) code (λ bound. is_memory_argument kind.Plain bound ∷ is_one_lane ∷ []) → InRanges code ((0x54, 0x5b) ∷ [])
simd_low_memory_lane_index_codes code h = codes_in (λ e. are_plain_memory_lane_index (entry_kinds e)) ((0x54, 0x5b) ∷ []) simd_entries code refl refl (ap are_plain_memory_lane_index h)

abbrev simd_low_memory_lane_index_at : ℕ → Type 0
simd_low_memory_lane_index_at code = HasArm (Some 0xfd) code (is_memory_argument kind.Plain (align_at (Some 0xfd) code) ∷ is_one_lane ∷ []) (align_at (Some 0xfd) code)

pub simd_low_memory_lane_index_54 : (code : ℕ) → 0x54 ≤ code → code ≤ 0x5b → HasArm (Some 0xfd) code (is_memory_argument kind.Plain (align_at (Some 0xfd) code) ∷ is_one_lane ∷ []) (align_at (Some 0xfd) code)
simd_low_memory_lane_index_54 code from to = in_run simd_low_memory_lane_index_at 8 0x54 code ((refl, refl), ((refl, refl), ((refl, refl), ((refl, refl), ((refl, refl), ((refl, refl), ((refl, refl), ((refl, refl), tt)))))))) from (omega arith)

pub simd_low_vector_codes : (code : ℕ) → HasKindsAt (Some 0xfd) code (λ bound. is_vector ∷ []) → InRanges code ((0x0c, 0x0c) ∷ [])
simd_low_vector_codes code h = codes_in (λ e. are_vector (entry_kinds e)) ((0x0c, 0x0c) ∷ []) simd_entries code refl refl (ap are_vector h)

pub simd_low_lane_list_codes : (code : ℕ) → HasKindsAt (Some 0xfd) code (λ bound. is_sixteen_lanes ∷ []) → InRanges code ((0x0d, 0x0d) ∷ [])
simd_low_lane_list_codes code h = codes_in (λ e. are_lane_list (entry_kinds e)) ((0x0d, 0x0d) ∷ []) simd_entries code refl refl (ap are_lane_list h)

pub simd_low_lane_index_codes : (code : ℕ) → HasKindsAt (Some 0xfd) code (λ bound. is_one_lane ∷ []) → InRanges code ((0x15, 0x22) ∷ [])
simd_low_lane_index_codes code h = codes_in (λ e. are_lane_index (entry_kinds e)) ((0x15, 0x22) ∷ []) simd_entries code refl refl (ap are_lane_index h)

abbrev simd_low_lane_index_at : ℕ → Type 0
simd_low_lane_index_at code = HasArm (Some 0xfd) code (is_one_lane ∷ []) 0

pub simd_low_lane_index_15 : (code : ℕ) → 0x15 ≤ code → code ≤ 0x22 → HasArm (Some 0xfd) code (is_one_lane ∷ []) 0
simd_low_lane_index_15 code from to = in_run simd_low_lane_index_at 14 0x15 code ((refl, refl), ((refl, refl), ((refl, refl), ((refl, refl), ((refl, refl), ((refl, refl), ((refl, refl), ((refl, refl), ((refl, refl), ((refl, refl), ((refl, refl), ((refl, refl), ((refl, refl), ((refl, refl), tt)))))))))))))) from (omega arith)

pub simd_low_without_immediates_codes : (code : ℕ) → HasKindsAt (Some 0xfd) code (λ bound. []) → InRanges code ((0x0e, 0x14) ∷ (0x23, 0x53) ∷ (0x5e, 0x99) ∷ (0x9b, 0xa1) ∷ (0xa3, 0xa4) ∷ (0xa7, 0xae) ∷ (0xb1, 0xb1) ∷ (0xb5, 0xba) ∷ (0xbc, 0xc1) ∷ (0xc3, 0xc4) ∷ (0xc7, 0xce) ∷ (0xd1, 0xd1) ∷ (0xd5, 0xe1) ∷ (0xe3, 0xed) ∷ (0xef, 0x113) ∷ [])
simd_low_without_immediates_codes code h = codes_in (λ e. are_none (entry_kinds e)) ((0x0e, 0x14) ∷ (0x23, 0x53) ∷ (0x5e, 0x99) ∷ (0x9b, 0xa1) ∷ (0xa3, 0xa4) ∷ (0xa7, 0xae) ∷ (0xb1, 0xb1) ∷ (0xb5, 0xba) ∷ (0xbc, 0xc1) ∷ (0xc3, 0xc4) ∷ (0xc7, 0xce) ∷ (0xd1, 0xd1) ∷ (0xd5, 0xe1) ∷ (0xe3, 0xed) ∷ (0xef, 0x113) ∷ []) simd_entries code refl refl (ap are_none h)

pub simd_low_without_immediates_arm : (code : ℕ) → entry_at (Some 0xfd) code ≡ free [] → HasArm (Some 0xfd) code [] 0
simd_low_without_immediates_arm code e = (e, sym (ap align_in e))

pub simd_high_without_immediates_codes : (code : ℕ) → HasKindsAt (Some 0xfd) code (λ bound. []) → InRanges code ((0x0e, 0x14) ∷ (0x23, 0x53) ∷ (0x5e, 0x99) ∷ (0x9b, 0xa1) ∷ (0xa3, 0xa4) ∷ (0xa7, 0xae) ∷ (0xb1, 0xb1) ∷ (0xb5, 0xba) ∷ (0xbc, 0xc1) ∷ (0xc3, 0xc4) ∷ (0xc7, 0xce) ∷ (0xd1, 0xd1) ∷ (0xd5, 0xe1) ∷ (0xe3, 0xed) ∷ (0xef, 0x113) ∷ [])
simd_high_without_immediates_codes code h = codes_in (λ e. are_none (entry_kinds e)) ((0x0e, 0x14) ∷ (0x23, 0x53) ∷ (0x5e, 0x99) ∷ (0x9b, 0xa1) ∷ (0xa3, 0xa4) ∷ (0xa7, 0xae) ∷ (0xb1, 0xb1) ∷ (0xb5, 0xba) ∷ (0xbc, 0xc1) ∷ (0xc3, 0xc4) ∷ (0xc7, 0xce) ∷ (0xd1, 0xd1) ∷ (0xd5, 0xe1) ∷ (0xe3, 0xed) ∷ (0xef, 0x113) ∷ []) simd_entries code refl refl (ap are_none h)

pub simd_high_without_immediates_arm : (code : ℕ) → entry_at (Some 0xfd) code ≡ free [] → HasArm (Some 0xfd) code [] 0
simd_high_without_immediates_arm code e = (e, sym (ap align_in e))

abbrev pub simd_other_codes : List (ℕ × ℕ)
simd_other_codes = (0x00, 0x0d) ∷ (0x15, 0x22) ∷ (0x54, 0x5d) ∷ []

pub simd_others : (code : ℕ) → is_other (entry_at (Some 0xfd) code) ≡ true → InRanges code simd_other_codes
simd_others code other = codes_in is_other simd_other_codes simd_entries code refl refl other

pub simd_low_known : (code : ℕ) → code < 0x80 → is_known (entry_at (Some 0xfd) code) ≡ true
simd_low_known code low = in_run (λ c. is_known (entry_at (Some 0xfd) c) ≡ true) 0x80 0 code (refl, (refl, (refl, (refl, (refl, (refl, (refl, (refl, (refl, (refl, (refl, (refl, (refl, (refl, (refl, (refl, (refl, (refl, (refl, (refl, (refl, (refl, (refl, (refl, (refl, (refl, (refl, (refl, (refl, (refl, (refl, (refl, (refl, (refl, (refl, (refl, (refl, (refl, (refl, (refl, (refl, (refl, (refl, (refl, (refl, (refl, (refl, (refl, (refl, (refl, (refl, (refl, (refl, (refl, (refl, (refl, (refl, (refl, (refl, (refl, (refl, (refl, (refl, (refl, (refl, (refl, (refl, (refl, (refl, (refl, (refl, (refl, (refl, (refl, (refl, (refl, (refl, (refl, (refl, (refl, (refl, (refl, (refl, (refl, (refl, (refl, (refl, (refl, (refl, (refl, (refl, (refl, (refl, (refl, (refl, (refl, (refl, (refl, (refl, (refl, (refl, (refl, (refl, (refl, (refl, (refl, (refl, (refl, (refl, (refl, (refl, (refl, (refl, (refl, (refl, (refl, (refl, (refl, (refl, (refl, (refl, (refl, (refl, (refl, (refl, (refl, (refl, (refl, tt)))))))))))))))))))))))))))))))))))))))))))))))))))))))))))))))))))))))))))))))))))))))))))))))))))))))))))))))))))))))))))))))) (omega arith) (omega (arith, low))
