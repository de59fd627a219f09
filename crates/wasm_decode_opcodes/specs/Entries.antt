-- Written by tools/lists.py from tools/operators.tsv.
-- The kinds of the immediates after each opcode and each subopcode.
-- Specification: Binary Format, Instructions; Appendix, Index of Instructions.
use Rattle.std.specs.Prelude.{ℕ, ◌==◌, if◌then◌else◌, List, [], ◌∷◌, slice_index_or, Option, Some, None}
use Rattle.wasm_imm.specs.declared.memory_argument.MemArgKind.TheVariants as kind
use Rattle.wasm_imm.specs.Immediate.{is_unsigned_32, is_signed_32, is_signed_64, is_float_32, is_float_64, is_one_lane, is_sixteen_lanes, is_vector, is_memory_index, is_table_index, is_order, is_fence_order, is_heap_type, is_cast, is_block_type, is_branch_table, is_select_types, is_try_clauses, is_resume_clauses, is_memory_argument}
use Rattle.wasm_decode_opcodes.specs.declared.guard.Guard.TheVariants as guard
use Rattle.wasm_decode_opcodes.specs.Entry.{Entry, unknown, prefixes, free, guarded, align_in}

-- The entry of each opcode, at the index of its number.
abbrev pub opcode_entries : List Entry
opcode_entries =
    (free []) ∷
    (free []) ∷
    (free (is_block_type ∷ [])) ∷
    (free (is_block_type ∷ [])) ∷
    (free (is_block_type ∷ [])) ∷
    (guarded guard.Else []) ∷
    (guarded guard.Try (is_block_type ∷ [])) ∷
    (guarded guard.Catch (is_unsigned_32 ∷ [])) ∷
    (free (is_unsigned_32 ∷ [])) ∷
    (free (is_unsigned_32 ∷ [])) ∷
    (free []) ∷
    (free []) ∷
    (free (is_unsigned_32 ∷ [])) ∷
    (free (is_unsigned_32 ∷ [])) ∷
    (free (is_branch_table ∷ [])) ∷
    (free []) ∷
    (free (is_unsigned_32 ∷ [])) ∷
    (free (is_unsigned_32 ∷ is_table_index ∷ [])) ∷
    (free (is_unsigned_32 ∷ [])) ∷
    (free (is_unsigned_32 ∷ is_unsigned_32 ∷ [])) ∷
    (free (is_unsigned_32 ∷ [])) ∷
    (free (is_unsigned_32 ∷ [])) ∷
    unknown ∷
    unknown ∷
    (guarded guard.Delegate (is_unsigned_32 ∷ [])) ∷
    (guarded guard.CatchAll []) ∷
    (free []) ∷
    (free []) ∷
    (free (is_select_types ∷ [])) ∷
    unknown ∷
    unknown ∷
    (free (is_try_clauses ∷ [])) ∷
    (free (is_unsigned_32 ∷ [])) ∷
    (free (is_unsigned_32 ∷ [])) ∷
    (free (is_unsigned_32 ∷ [])) ∷
    (free (is_unsigned_32 ∷ [])) ∷
    (free (is_unsigned_32 ∷ [])) ∷
    (free (is_unsigned_32 ∷ [])) ∷
    (free (is_unsigned_32 ∷ [])) ∷
    unknown ∷
    (free (is_memory_argument kind.Plain 2 ∷ [])) ∷
    (free (is_memory_argument kind.Plain 3 ∷ [])) ∷
    (free (is_memory_argument kind.Plain 2 ∷ [])) ∷
    (free (is_memory_argument kind.Plain 3 ∷ [])) ∷
    (free (is_memory_argument kind.Plain 0 ∷ [])) ∷
    (free (is_memory_argument kind.Plain 0 ∷ [])) ∷
    (free (is_memory_argument kind.Plain 1 ∷ [])) ∷
    (free (is_memory_argument kind.Plain 1 ∷ [])) ∷
    (free (is_memory_argument kind.Plain 0 ∷ [])) ∷
    (free (is_memory_argument kind.Plain 0 ∷ [])) ∷
    (free (is_memory_argument kind.Plain 1 ∷ [])) ∷
    (free (is_memory_argument kind.Plain 1 ∷ [])) ∷
    (free (is_memory_argument kind.Plain 2 ∷ [])) ∷
    (free (is_memory_argument kind.Plain 2 ∷ [])) ∷
    (free (is_memory_argument kind.Plain 2 ∷ [])) ∷
    (free (is_memory_argument kind.Plain 3 ∷ [])) ∷
    (free (is_memory_argument kind.Plain 2 ∷ [])) ∷
    (free (is_memory_argument kind.Plain 3 ∷ [])) ∷
    (free (is_memory_argument kind.Plain 0 ∷ [])) ∷
    (free (is_memory_argument kind.Plain 1 ∷ [])) ∷
    (free (is_memory_argument kind.Plain 0 ∷ [])) ∷
    (free (is_memory_argument kind.Plain 1 ∷ [])) ∷
    (free (is_memory_argument kind.Plain 2 ∷ [])) ∷
    (free (is_memory_index ∷ [])) ∷
    (free (is_memory_index ∷ [])) ∷
    (free (is_signed_32 ∷ [])) ∷
    (free (is_signed_64 ∷ [])) ∷
    (free (is_float_32 ∷ [])) ∷
    (free (is_float_64 ∷ [])) ∷
    (free []) ∷
    (free []) ∷
    (free []) ∷
    (free []) ∷
    (free []) ∷
    (free []) ∷
    (free []) ∷
    (free []) ∷
    (free []) ∷
    (free []) ∷
    (free []) ∷
    (free []) ∷
    (free []) ∷
    (free []) ∷
    (free []) ∷
    (free []) ∷
    (free []) ∷
    (free []) ∷
    (free []) ∷
    (free []) ∷
    (free []) ∷
    (free []) ∷
    (free []) ∷
    (free []) ∷
    (free []) ∷
    (free []) ∷
    (free []) ∷
    (free []) ∷
    (free []) ∷
    (free []) ∷
    (free []) ∷
    (free []) ∷
    (free []) ∷
    (free []) ∷
    (free []) ∷
    (free []) ∷
    (free []) ∷
    (free []) ∷
    (free []) ∷
    (free []) ∷
    (free []) ∷
    (free []) ∷
    (free []) ∷
    (free []) ∷
    (free []) ∷
    (free []) ∷
    (free []) ∷
    (free []) ∷
    (free []) ∷
    (free []) ∷
    (free []) ∷
    (free []) ∷
    (free []) ∷
    (free []) ∷
    (free []) ∷
    (free []) ∷
    (free []) ∷
    (free []) ∷
    (free []) ∷
    (free []) ∷
    (free []) ∷
    (free []) ∷
    (free []) ∷
    (free []) ∷
    (free []) ∷
    (free []) ∷
    (free []) ∷
    (free []) ∷
    (free []) ∷
    (free []) ∷
    (free []) ∷
    (free []) ∷
    (free []) ∷
    (free []) ∷
    (free []) ∷
    (free []) ∷
    (free []) ∷
    (free []) ∷
    (free []) ∷
    (free []) ∷
    (free []) ∷
    (free []) ∷
    (free []) ∷
    (free []) ∷
    (free []) ∷
    (free []) ∷
    (free []) ∷
    (free []) ∷
    (free []) ∷
    (free []) ∷
    (free []) ∷
    (free []) ∷
    (free []) ∷
    (free []) ∷
    (free []) ∷
    (free []) ∷
    (free []) ∷
    (free []) ∷
    (free []) ∷
    (free []) ∷
    (free []) ∷
    (free []) ∷
    (free []) ∷
    (free []) ∷
    (free []) ∷
    (free []) ∷
    (free []) ∷
    (free []) ∷
    (free []) ∷
    (free []) ∷
    (free []) ∷
    (free []) ∷
    (free []) ∷
    (free []) ∷
    (free []) ∷
    (free []) ∷
    (free []) ∷
    (free []) ∷
    (free []) ∷
    (free []) ∷
    (free []) ∷
    (free []) ∷
    (free []) ∷
    (free []) ∷
    (free []) ∷
    (free []) ∷
    (free []) ∷
    (free []) ∷
    unknown ∷
    unknown ∷
    unknown ∷
    unknown ∷
    unknown ∷
    unknown ∷
    unknown ∷
    unknown ∷
    unknown ∷
    unknown ∷
    unknown ∷
    (free (is_heap_type ∷ [])) ∷
    (free []) ∷
    (free (is_unsigned_32 ∷ [])) ∷
    (free []) ∷
    (free []) ∷
    (free (is_unsigned_32 ∷ [])) ∷
    (free (is_unsigned_32 ∷ [])) ∷
    unknown ∷
    unknown ∷
    unknown ∷
    unknown ∷
    unknown ∷
    unknown ∷
    unknown ∷
    unknown ∷
    unknown ∷
    (free (is_unsigned_32 ∷ [])) ∷
    (free (is_unsigned_32 ∷ is_unsigned_32 ∷ [])) ∷
    (free (is_unsigned_32 ∷ [])) ∷
    (free (is_unsigned_32 ∷ is_resume_clauses ∷ [])) ∷
    (free (is_unsigned_32 ∷ is_unsigned_32 ∷ is_resume_clauses ∷ [])) ∷
    (free (is_unsigned_32 ∷ is_resume_clauses ∷ [])) ∷
    (free (is_unsigned_32 ∷ is_unsigned_32 ∷ [])) ∷
    unknown ∷
    unknown ∷
    unknown ∷
    unknown ∷
    unknown ∷
    unknown ∷
    unknown ∷
    unknown ∷
    unknown ∷
    unknown ∷
    unknown ∷
    unknown ∷
    unknown ∷
    unknown ∷
    unknown ∷
    unknown ∷
    unknown ∷
    unknown ∷
    unknown ∷
    unknown ∷
    prefixes ∷
    prefixes ∷
    prefixes ∷
    prefixes ∷
    []

-- The entry of each subopcode after the prefix byte 0xfb, at the index of its number.
abbrev pub gc_entries : List Entry
gc_entries =
    (free (is_unsigned_32 ∷ [])) ∷
    (free (is_unsigned_32 ∷ [])) ∷
    (free (is_unsigned_32 ∷ is_unsigned_32 ∷ [])) ∷
    (free (is_unsigned_32 ∷ is_unsigned_32 ∷ [])) ∷
    (free (is_unsigned_32 ∷ is_unsigned_32 ∷ [])) ∷
    (free (is_unsigned_32 ∷ is_unsigned_32 ∷ [])) ∷
    (free (is_unsigned_32 ∷ [])) ∷
    (free (is_unsigned_32 ∷ [])) ∷
    (free (is_unsigned_32 ∷ is_unsigned_32 ∷ [])) ∷
    (free (is_unsigned_32 ∷ is_unsigned_32 ∷ [])) ∷
    (free (is_unsigned_32 ∷ is_unsigned_32 ∷ [])) ∷
    (free (is_unsigned_32 ∷ [])) ∷
    (free (is_unsigned_32 ∷ [])) ∷
    (free (is_unsigned_32 ∷ [])) ∷
    (free (is_unsigned_32 ∷ [])) ∷
    (free []) ∷
    (free (is_unsigned_32 ∷ [])) ∷
    (free (is_unsigned_32 ∷ is_unsigned_32 ∷ [])) ∷
    (free (is_unsigned_32 ∷ is_unsigned_32 ∷ [])) ∷
    (free (is_unsigned_32 ∷ is_unsigned_32 ∷ [])) ∷
    (free (is_heap_type ∷ [])) ∷
    (free (is_heap_type ∷ [])) ∷
    (free (is_heap_type ∷ [])) ∷
    (free (is_heap_type ∷ [])) ∷
    (free (is_cast ∷ [])) ∷
    (free (is_cast ∷ [])) ∷
    (free []) ∷
    (free []) ∷
    (free []) ∷
    (free []) ∷
    (free []) ∷
    unknown ∷
    (free (is_unsigned_32 ∷ [])) ∷
    (free (is_unsigned_32 ∷ [])) ∷
    (free (is_unsigned_32 ∷ [])) ∷
    (free (is_heap_type ∷ [])) ∷
    (free (is_heap_type ∷ [])) ∷
    (free (is_cast ∷ [])) ∷
    (free (is_cast ∷ [])) ∷
    []

-- The entry of each subopcode after the prefix byte 0xfc, at the index of its number.
abbrev pub misc_entries : List Entry
misc_entries =
    (free []) ∷
    (free []) ∷
    (free []) ∷
    (free []) ∷
    (free []) ∷
    (free []) ∷
    (free []) ∷
    (free []) ∷
    (free (is_unsigned_32 ∷ is_unsigned_32 ∷ [])) ∷
    (free (is_unsigned_32 ∷ [])) ∷
    (free (is_unsigned_32 ∷ is_unsigned_32 ∷ [])) ∷
    (free (is_unsigned_32 ∷ [])) ∷
    (free (is_unsigned_32 ∷ is_unsigned_32 ∷ [])) ∷
    (free (is_unsigned_32 ∷ [])) ∷
    (free (is_unsigned_32 ∷ is_unsigned_32 ∷ [])) ∷
    (free (is_unsigned_32 ∷ [])) ∷
    (free (is_unsigned_32 ∷ [])) ∷
    (free (is_unsigned_32 ∷ [])) ∷
    (free (is_unsigned_32 ∷ [])) ∷
    (free []) ∷
    (free []) ∷
    (free []) ∷
    (free []) ∷
    []

-- The entry of each subopcode after the prefix byte 0xfd, at the index of its number.
abbrev pub simd_entries : List Entry
simd_entries =
    (free (is_memory_argument kind.Plain 4 ∷ [])) ∷
    (free (is_memory_argument kind.Plain 3 ∷ [])) ∷
    (free (is_memory_argument kind.Plain 3 ∷ [])) ∷
    (free (is_memory_argument kind.Plain 3 ∷ [])) ∷
    (free (is_memory_argument kind.Plain 3 ∷ [])) ∷
    (free (is_memory_argument kind.Plain 3 ∷ [])) ∷
    (free (is_memory_argument kind.Plain 3 ∷ [])) ∷
    (free (is_memory_argument kind.Plain 0 ∷ [])) ∷
    (free (is_memory_argument kind.Plain 1 ∷ [])) ∷
    (free (is_memory_argument kind.Plain 2 ∷ [])) ∷
    (free (is_memory_argument kind.Plain 3 ∷ [])) ∷
    (free (is_memory_argument kind.Plain 4 ∷ [])) ∷
    (free (is_vector ∷ [])) ∷
    (free (is_sixteen_lanes ∷ [])) ∷
    (free []) ∷
    (free []) ∷
    (free []) ∷
    (free []) ∷
    (free []) ∷
    (free []) ∷
    (free []) ∷
    (free (is_one_lane ∷ [])) ∷
    (free (is_one_lane ∷ [])) ∷
    (free (is_one_lane ∷ [])) ∷
    (free (is_one_lane ∷ [])) ∷
    (free (is_one_lane ∷ [])) ∷
    (free (is_one_lane ∷ [])) ∷
    (free (is_one_lane ∷ [])) ∷
    (free (is_one_lane ∷ [])) ∷
    (free (is_one_lane ∷ [])) ∷
    (free (is_one_lane ∷ [])) ∷
    (free (is_one_lane ∷ [])) ∷
    (free (is_one_lane ∷ [])) ∷
    (free (is_one_lane ∷ [])) ∷
    (free (is_one_lane ∷ [])) ∷
    (free []) ∷
    (free []) ∷
    (free []) ∷
    (free []) ∷
    (free []) ∷
    (free []) ∷
    (free []) ∷
    (free []) ∷
    (free []) ∷
    (free []) ∷
    (free []) ∷
    (free []) ∷
    (free []) ∷
    (free []) ∷
    (free []) ∷
    (free []) ∷
    (free []) ∷
    (free []) ∷
    (free []) ∷
    (free []) ∷
    (free []) ∷
    (free []) ∷
    (free []) ∷
    (free []) ∷
    (free []) ∷
    (free []) ∷
    (free []) ∷
    (free []) ∷
    (free []) ∷
    (free []) ∷
    (free []) ∷
    (free []) ∷
    (free []) ∷
    (free []) ∷
    (free []) ∷
    (free []) ∷
    (free []) ∷
    (free []) ∷
    (free []) ∷
    (free []) ∷
    (free []) ∷
    (free []) ∷
    (free []) ∷
    (free []) ∷
    (free []) ∷
    (free []) ∷
    (free []) ∷
    (free []) ∷
    (free []) ∷
    (free (is_memory_argument kind.Plain 0 ∷ is_one_lane ∷ [])) ∷
    (free (is_memory_argument kind.Plain 1 ∷ is_one_lane ∷ [])) ∷
    (free (is_memory_argument kind.Plain 2 ∷ is_one_lane ∷ [])) ∷
    (free (is_memory_argument kind.Plain 3 ∷ is_one_lane ∷ [])) ∷
    (free (is_memory_argument kind.Plain 0 ∷ is_one_lane ∷ [])) ∷
    (free (is_memory_argument kind.Plain 1 ∷ is_one_lane ∷ [])) ∷
    (free (is_memory_argument kind.Plain 2 ∷ is_one_lane ∷ [])) ∷
    (free (is_memory_argument kind.Plain 3 ∷ is_one_lane ∷ [])) ∷
    (free (is_memory_argument kind.Plain 2 ∷ [])) ∷
    (free (is_memory_argument kind.Plain 3 ∷ [])) ∷
    (free []) ∷
    (free []) ∷
    (free []) ∷
    (free []) ∷
    (free []) ∷
    (free []) ∷
    (free []) ∷
    (free []) ∷
    (free []) ∷
    (free []) ∷
    (free []) ∷
    (free []) ∷
    (free []) ∷
    (free []) ∷
    (free []) ∷
    (free []) ∷
    (free []) ∷
    (free []) ∷
    (free []) ∷
    (free []) ∷
    (free []) ∷
    (free []) ∷
    (free []) ∷
    (free []) ∷
    (free []) ∷
    (free []) ∷
    (free []) ∷
    (free []) ∷
    (free []) ∷
    (free []) ∷
    (free []) ∷
    (free []) ∷
    (free []) ∷
    (free []) ∷
    (free []) ∷
    (free []) ∷
    (free []) ∷
    (free []) ∷
    (free []) ∷
    (free []) ∷
    (free []) ∷
    (free []) ∷
    (free []) ∷
    (free []) ∷
    (free []) ∷
    (free []) ∷
    (free []) ∷
    (free []) ∷
    (free []) ∷
    (free []) ∷
    (free []) ∷
    (free []) ∷
    (free []) ∷
    (free []) ∷
    (free []) ∷
    (free []) ∷
    (free []) ∷
    (free []) ∷
    (free []) ∷
    (free []) ∷
    unknown ∷
    (free []) ∷
    (free []) ∷
    (free []) ∷
    (free []) ∷
    (free []) ∷
    (free []) ∷
    (free []) ∷
    unknown ∷
    (free []) ∷
    (free []) ∷
    unknown ∷
    unknown ∷
    (free []) ∷
    (free []) ∷
    (free []) ∷
    (free []) ∷
    (free []) ∷
    (free []) ∷
    (free []) ∷
    (free []) ∷
    unknown ∷
    unknown ∷
    (free []) ∷
    unknown ∷
    unknown ∷
    unknown ∷
    (free []) ∷
    (free []) ∷
    (free []) ∷
    (free []) ∷
    (free []) ∷
    (free []) ∷
    unknown ∷
    (free []) ∷
    (free []) ∷
    (free []) ∷
    (free []) ∷
    (free []) ∷
    (free []) ∷
    unknown ∷
    (free []) ∷
    (free []) ∷
    unknown ∷
    unknown ∷
    (free []) ∷
    (free []) ∷
    (free []) ∷
    (free []) ∷
    (free []) ∷
    (free []) ∷
    (free []) ∷
    (free []) ∷
    unknown ∷
    unknown ∷
    (free []) ∷
    unknown ∷
    unknown ∷
    unknown ∷
    (free []) ∷
    (free []) ∷
    (free []) ∷
    (free []) ∷
    (free []) ∷
    (free []) ∷
    (free []) ∷
    (free []) ∷
    (free []) ∷
    (free []) ∷
    (free []) ∷
    (free []) ∷
    (free []) ∷
    unknown ∷
    (free []) ∷
    (free []) ∷
    (free []) ∷
    (free []) ∷
    (free []) ∷
    (free []) ∷
    (free []) ∷
    (free []) ∷
    (free []) ∷
    (free []) ∷
    (free []) ∷
    unknown ∷
    (free []) ∷
    (free []) ∷
    (free []) ∷
    (free []) ∷
    (free []) ∷
    (free []) ∷
    (free []) ∷
    (free []) ∷
    (free []) ∷
    (free []) ∷
    (free []) ∷
    (free []) ∷
    (free []) ∷
    (free []) ∷
    (free []) ∷
    (free []) ∷
    (free []) ∷
    (free []) ∷
    (free []) ∷
    (free []) ∷
    (free []) ∷
    (free []) ∷
    (free []) ∷
    (free []) ∷
    (free []) ∷
    (free []) ∷
    (free []) ∷
    (free []) ∷
    (free []) ∷
    (free []) ∷
    (free []) ∷
    (free []) ∷
    (free []) ∷
    (free []) ∷
    (free []) ∷
    (free []) ∷
    (free []) ∷
    []

-- The entry of each subopcode after the prefix byte 0xfe, at the index of its number.
abbrev pub atomic_entries : List Entry
atomic_entries =
    (free (is_memory_argument kind.Plain 2 ∷ [])) ∷
    (free (is_memory_argument kind.Plain 2 ∷ [])) ∷
    (free (is_memory_argument kind.Plain 3 ∷ [])) ∷
    (free (is_fence_order ∷ [])) ∷
    (free []) ∷
    unknown ∷
    unknown ∷
    unknown ∷
    unknown ∷
    unknown ∷
    unknown ∷
    unknown ∷
    unknown ∷
    unknown ∷
    unknown ∷
    unknown ∷
    (free (is_memory_argument kind.Op 2 ∷ [])) ∷
    (free (is_memory_argument kind.Op 3 ∷ [])) ∷
    (free (is_memory_argument kind.Op 0 ∷ [])) ∷
    (free (is_memory_argument kind.Op 1 ∷ [])) ∷
    (free (is_memory_argument kind.Op 0 ∷ [])) ∷
    (free (is_memory_argument kind.Op 1 ∷ [])) ∷
    (free (is_memory_argument kind.Op 2 ∷ [])) ∷
    (free (is_memory_argument kind.Op 2 ∷ [])) ∷
    (free (is_memory_argument kind.Op 3 ∷ [])) ∷
    (free (is_memory_argument kind.Op 0 ∷ [])) ∷
    (free (is_memory_argument kind.Op 1 ∷ [])) ∷
    (free (is_memory_argument kind.Op 0 ∷ [])) ∷
    (free (is_memory_argument kind.Op 1 ∷ [])) ∷
    (free (is_memory_argument kind.Op 2 ∷ [])) ∷
    (free (is_memory_argument kind.Rmw 2 ∷ [])) ∷
    (free (is_memory_argument kind.Rmw 3 ∷ [])) ∷
    (free (is_memory_argument kind.Rmw 0 ∷ [])) ∷
    (free (is_memory_argument kind.Rmw 1 ∷ [])) ∷
    (free (is_memory_argument kind.Rmw 0 ∷ [])) ∷
    (free (is_memory_argument kind.Rmw 1 ∷ [])) ∷
    (free (is_memory_argument kind.Rmw 2 ∷ [])) ∷
    (free (is_memory_argument kind.Rmw 2 ∷ [])) ∷
    (free (is_memory_argument kind.Rmw 3 ∷ [])) ∷
    (free (is_memory_argument kind.Rmw 0 ∷ [])) ∷
    (free (is_memory_argument kind.Rmw 1 ∷ [])) ∷
    (free (is_memory_argument kind.Rmw 0 ∷ [])) ∷
    (free (is_memory_argument kind.Rmw 1 ∷ [])) ∷
    (free (is_memory_argument kind.Rmw 2 ∷ [])) ∷
    (free (is_memory_argument kind.Rmw 2 ∷ [])) ∷
    (free (is_memory_argument kind.Rmw 3 ∷ [])) ∷
    (free (is_memory_argument kind.Rmw 0 ∷ [])) ∷
    (free (is_memory_argument kind.Rmw 1 ∷ [])) ∷
    (free (is_memory_argument kind.Rmw 0 ∷ [])) ∷
    (free (is_memory_argument kind.Rmw 1 ∷ [])) ∷
    (free (is_memory_argument kind.Rmw 2 ∷ [])) ∷
    (free (is_memory_argument kind.Rmw 2 ∷ [])) ∷
    (free (is_memory_argument kind.Rmw 3 ∷ [])) ∷
    (free (is_memory_argument kind.Rmw 0 ∷ [])) ∷
    (free (is_memory_argument kind.Rmw 1 ∷ [])) ∷
    (free (is_memory_argument kind.Rmw 0 ∷ [])) ∷
    (free (is_memory_argument kind.Rmw 1 ∷ [])) ∷
    (free (is_memory_argument kind.Rmw 2 ∷ [])) ∷
    (free (is_memory_argument kind.Rmw 2 ∷ [])) ∷
    (free (is_memory_argument kind.Rmw 3 ∷ [])) ∷
    (free (is_memory_argument kind.Rmw 0 ∷ [])) ∷
    (free (is_memory_argument kind.Rmw 1 ∷ [])) ∷
    (free (is_memory_argument kind.Rmw 0 ∷ [])) ∷
    (free (is_memory_argument kind.Rmw 1 ∷ [])) ∷
    (free (is_memory_argument kind.Rmw 2 ∷ [])) ∷
    (free (is_memory_argument kind.Rmw 2 ∷ [])) ∷
    (free (is_memory_argument kind.Rmw 3 ∷ [])) ∷
    (free (is_memory_argument kind.Rmw 0 ∷ [])) ∷
    (free (is_memory_argument kind.Rmw 1 ∷ [])) ∷
    (free (is_memory_argument kind.Rmw 0 ∷ [])) ∷
    (free (is_memory_argument kind.Rmw 1 ∷ [])) ∷
    (free (is_memory_argument kind.Rmw 2 ∷ [])) ∷
    (free (is_memory_argument kind.Rmw 2 ∷ [])) ∷
    (free (is_memory_argument kind.Rmw 3 ∷ [])) ∷
    (free (is_memory_argument kind.Rmw 0 ∷ [])) ∷
    (free (is_memory_argument kind.Rmw 1 ∷ [])) ∷
    (free (is_memory_argument kind.Rmw 0 ∷ [])) ∷
    (free (is_memory_argument kind.Rmw 1 ∷ [])) ∷
    (free (is_memory_argument kind.Rmw 2 ∷ [])) ∷
    (free (is_order ∷ is_unsigned_32 ∷ [])) ∷
    (free (is_order ∷ is_unsigned_32 ∷ [])) ∷
    (free (is_order ∷ is_unsigned_32 ∷ [])) ∷
    (free (is_order ∷ is_unsigned_32 ∷ [])) ∷
    (free (is_order ∷ is_unsigned_32 ∷ [])) ∷
    (free (is_order ∷ is_unsigned_32 ∷ [])) ∷
    (free (is_order ∷ is_unsigned_32 ∷ [])) ∷
    (free (is_order ∷ is_unsigned_32 ∷ [])) ∷
    (free (is_order ∷ is_unsigned_32 ∷ [])) ∷
    (free (is_order ∷ is_unsigned_32 ∷ [])) ∷
    (free (is_order ∷ is_unsigned_32 ∷ [])) ∷
    (free (is_order ∷ is_unsigned_32 ∷ [])) ∷
    (free (is_order ∷ is_unsigned_32 ∷ [])) ∷
    (free (is_order ∷ is_unsigned_32 ∷ is_unsigned_32 ∷ [])) ∷
    (free (is_order ∷ is_unsigned_32 ∷ is_unsigned_32 ∷ [])) ∷
    (free (is_order ∷ is_unsigned_32 ∷ is_unsigned_32 ∷ [])) ∷
    (free (is_order ∷ is_unsigned_32 ∷ is_unsigned_32 ∷ [])) ∷
    (free (is_order ∷ is_unsigned_32 ∷ is_unsigned_32 ∷ [])) ∷
    (free (is_order ∷ is_unsigned_32 ∷ is_unsigned_32 ∷ [])) ∷
    (free (is_order ∷ is_unsigned_32 ∷ is_unsigned_32 ∷ [])) ∷
    (free (is_order ∷ is_unsigned_32 ∷ is_unsigned_32 ∷ [])) ∷
    (free (is_order ∷ is_unsigned_32 ∷ is_unsigned_32 ∷ [])) ∷
    (free (is_order ∷ is_unsigned_32 ∷ is_unsigned_32 ∷ [])) ∷
    (free (is_order ∷ is_unsigned_32 ∷ is_unsigned_32 ∷ [])) ∷
    (free (is_order ∷ is_unsigned_32 ∷ [])) ∷
    (free (is_order ∷ is_unsigned_32 ∷ [])) ∷
    (free (is_order ∷ is_unsigned_32 ∷ [])) ∷
    (free (is_order ∷ is_unsigned_32 ∷ [])) ∷
    (free (is_order ∷ is_unsigned_32 ∷ [])) ∷
    (free (is_order ∷ is_unsigned_32 ∷ [])) ∷
    (free (is_order ∷ is_unsigned_32 ∷ [])) ∷
    (free (is_order ∷ is_unsigned_32 ∷ [])) ∷
    (free (is_order ∷ is_unsigned_32 ∷ [])) ∷
    (free (is_order ∷ is_unsigned_32 ∷ [])) ∷
    (free (is_order ∷ is_unsigned_32 ∷ [])) ∷
    (free []) ∷
    []

-- The entries of the subopcodes after a prefix byte.
abbrev pub entries_after : ℕ → List Entry
entries_after prefix =
    if prefix == 0xfb then gc_entries else (
    if prefix == 0xfc then misc_entries else (
    if prefix == 0xfd then simd_entries else (
    if prefix == 0xfe then atomic_entries else (
    []))))

-- The entry of an opcode, or of a subopcode after a prefix byte.
abbrev pub entry_at : Option ℕ → ℕ → Entry
entry_at None code = slice_index_or opcode_entries code unknown
entry_at (Some prefix) code = slice_index_or (entries_after prefix) code unknown

-- The natural alignment as an exponent, or 0 without a memory argument.
abbrev pub align_at : Option ℕ → ℕ → ℕ
align_at prefix code = align_in (entry_at prefix code)
