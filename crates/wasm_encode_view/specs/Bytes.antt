-- The bytes of a C struct, from its numbers.
-- Specification: Binary Format, Types and Instructions.
use Rattle.std.specs.Prelude.{ℕ, ◌+◌, ◌-◌, ◌*◌, ◌/◌, ◌%◌, ◌^◌, Bool, true, false, List, [], ◌∷◌, ◌++◌, pos, cond, eqb, ltb, ◌==◌, if◌then◌else◌}
use Rattle.std.specs.Int.{w32, w64, cast_signed, to_le_bytes}
use Rattle.wasm_encode_numbers.specs.Shortest.{unsigned_bytes, signed_bytes}
use Rattle.wasm_view.specs.declared.view.WasmOperator.{WasmOperator}

-- A heap type: an index, an exact index, an abstract type, or a shared one.
abbrev pub heap_bytes : ℕ → ℕ → List ℕ
heap_bytes kind index =
    cond (eqb kind 1) (signed_bytes (pos index)) (cond (eqb kind 2) (0x62 ∷ unsigned_bytes index) (cond (ltb kind 256) (kind ∷ []) (0x65 ∷ kind % 256 ∷ [])))

-- A reference type that includes null, after 512 was subtracted from its kind.
abbrev pub null_bytes : ℕ → ℕ → List ℕ
null_bytes kind index = cond (ltb kind 3) (0x63 ∷ heap_bytes kind index) (heap_bytes kind index)

abbrev pub reference_bytes : ℕ → ℕ → List ℕ
reference_bytes kind index = cond (ltb kind 512) (0x64 ∷ heap_bytes kind index) (null_bytes (kind - 512) index)

abbrev pub value_bytes : ℕ → ℕ → List ℕ
value_bytes kind index = cond (ltb kind 1024) (kind % 256 ∷ []) (reference_bytes (kind - 1024) index)

abbrev pub block_bytes : ℕ → ℕ → List ℕ
block_bytes kind index = cond (eqb kind 0) (signed_bytes (pos index)) (value_bytes kind index)

-- 1 if the reference type includes null.
abbrev pub null_flag : ℕ → ℕ
null_flag kind = cond (ltb kind 512) 0 1

-- Flags, label, and both heap types of a cast.
abbrev pub cast_bytes : ℕ → ℕ → ℕ → ℕ → ℕ → List ℕ
cast_bytes label from from_index to to_index =
    (null_flag from + 2 * null_flag to) ∷ (unsigned_bytes label ++ (heap_bytes (from % 512) from_index ++ heap_bytes (to % 512) to_index))

-- The byte of an ordering.
abbrev pub order_byte : ℕ → ℕ
order_byte ordering = cond (eqb ordering 2) 0x01 (cond (eqb ordering 4) 0x11 0x00)

-- The flag of an array, or of a memory other than 0.
abbrev pub target_flag : ℕ → ℕ → ℕ
target_flag target index = cond (eqb target 1) 32 (cond (eqb index 0) 0 64)

abbrev pub target_bytes : ℕ → ℕ → List ℕ
target_bytes target index = cond (eqb target 1) (unsigned_bytes index) (cond (eqb index 0) [] (unsigned_bytes index))

abbrev pub ordering_flag : ℕ → ℕ
ordering_flag ordering = cond (eqb ordering 0) 0 16

abbrev pub ordering_bytes : ℕ → List ℕ
ordering_bytes ordering = cond (eqb ordering 0) [] (order_byte ordering ∷ [])

-- The memory argument.
abbrev pub memory_bytes : WasmOperator → List ℕ
memory_bytes v =
    (v.align % 16 + (ordering_flag v.ordering + target_flag v.target v.first)) ∷ (target_bytes v.target v.first ++ (ordering_bytes v.ordering ++ unsigned_bytes v.wide))

-- The opcode, or the prefix byte and the subopcode.
abbrev pub opcode_bytes : ℕ → List ℕ
opcode_bytes number = cond (ltb number 65536) (number % 256 ∷ []) (number / 65536 % 256 ∷ unsigned_bytes (number % 65536))

abbrev pub two_bytes : ℕ → ℕ → List ℕ
two_bytes first second = unsigned_bytes first ++ unsigned_bytes second

abbrev pub float_bytes : ℕ → List ℕ
float_bytes bits = to_le_bytes w32 (bits % 2 ^ 32)

-- The immediates of each shape without a list.
abbrev pub immediate_bytes : WasmOperator → List ℕ
immediate_bytes v =
    if v.shape == 1 then unsigned_bytes v.first else (
    if v.shape == 2 then two_bytes v.first v.second else (
    if v.shape == 3 then memory_bytes v else (
    if v.shape == 4 then memory_bytes v ++ v.lane ∷ [] else (
    if v.shape == 5 then v.lane ∷ [] else (
    if v.shape == 6 then signed_bytes (cast_signed w64 v.wide) else (
    if v.shape == 7 then signed_bytes (cast_signed w64 v.wide) else (
    if v.shape == 8 then float_bytes v.wide else (
    if v.shape == 9 then to_le_bytes w64 v.wide else (
    if v.shape == 10 then v.bytes else (
    if v.shape == 11 then v.bytes else (
    if v.shape == 12 then order_byte v.ordering ∷ unsigned_bytes v.first else (
    if v.shape == 13 then order_byte v.ordering ∷ two_bytes v.first v.second else (
    if v.shape == 14 then order_byte v.ordering ∷ [] else (
    if v.shape == 15 then heap_bytes v.kind v.first else (
    if v.shape == 16 then cast_bytes v.first v.kind v.second v.other_kind v.third else (
    if v.shape == 17 then block_bytes v.kind v.first else (
    if v.shape == 19 then 1 ∷ value_bytes v.kind v.first else (
    []))))))))))))))))))

abbrev pub view_bytes : WasmOperator → List ℕ
view_bytes v = opcode_bytes v.opcode ++ immediate_bytes v

-- The shapes of operators with a list: 18 and 20 to 23.
abbrev pub list_shape : ℕ → Bool
list_shape shape = if shape == 18 then true else (if ltb shape 20 then false else ltb shape 24)
