-- Specification: Text Format, Values, Types, Instructions; proposals stack switching and
-- shared-everything threads. Comments in parentheses say where the text format has another form.
use Rattle.std.specs.Prelude.{ℕ, ℤ, ◌+◌, ◌/◌, ◌%◌, eqb, Bool, true, false, List, [], ◌∷◌, ◌++◌, Option, Some, None, codes, decimal, flat_map, cond, slice_index}
use Rattle.std.specs.Fmt.{digit_glyph, signed_decimal}
use Rattle.wasm_below.specs.declared.types.AbstractHeapType.{AbstractHeapType}
use Rattle.wasm_below.specs.declared.types.AbstractHeapType.TheVariants as ty
use Rattle.wasm_below.specs.declared.types.HeapType.{HeapType}
use Rattle.wasm_below.specs.declared.types.HeapType.TheVariants as heap
use Rattle.wasm_below.specs.declared.types.ValType.{ValType}
use Rattle.wasm_below.specs.declared.types.ValType.TheVariants as value
use Rattle.wasm_imm.specs.BranchTables.{BranchTable, numbers_of}
use Rattle.wasm_imm.specs.declared.block_type.BlockType.{BlockType}
use Rattle.wasm_imm.specs.declared.block_type.BlockType.TheVariants as block
use Rattle.wasm_imm.specs.declared.handler_tables.ResumeTable.{ResumeTable}
use Rattle.wasm_imm.specs.declared.handler_tables.TryTable.{TryTable}
use Rattle.wasm_imm.specs.declared.handlers.Catch.{Catch}
use Rattle.wasm_imm.specs.declared.handlers.Catch.TheVariants as clause
use Rattle.wasm_imm.specs.declared.handlers.Handle.{Handle}
use Rattle.wasm_imm.specs.declared.handlers.Handle.TheVariants as handle
use Rattle.wasm_imm.specs.declared.memory_argument.MemArg.{MemArg}
use Rattle.wasm_imm.specs.declared.memory_argument.MemArgOrdering.{MemArgOrdering}
use Rattle.wasm_imm.specs.declared.memory_argument.MemArgOrdering.TheVariants as ordering
use Rattle.wasm_imm.specs.declared.memory_argument.MemArgTarget.{MemArgTarget}
use Rattle.wasm_imm.specs.declared.memory_argument.MemArgTarget.TheVariants as target
use Rattle.wasm_imm.specs.declared.ordering.Ordering.{Ordering}
use Rattle.wasm_imm.specs.declared.ordering.Ordering.TheVariants.{AcqRel, SeqCst}

-- An index or another unsigned number.
abbrev pub number_text : ℕ → List ℕ
number_text n = codes " " ++ decimal n

abbrev pub signed_text : ℤ → List ℕ
signed_text n = codes " " ++ signed_decimal n

-- A byte as two hexadecimal digits.
abbrev pub byte_text : ℕ → List ℕ
byte_text byte = digit_glyph false (byte / 16) ∷ digit_glyph false (byte % 16) ∷ []

-- A space and `byte_text`.
abbrev pub spaced_byte : ℕ → List ℕ
spaced_byte byte = 32 ∷ byte_text byte

-- The four bytes from an index on as one hexadecimal word, the highest byte first.
abbrev pub word_text : List ℕ → ℕ → List ℕ
word_text bytes at = codes " 0x" ++ (byte_text (slice_index bytes (at + 3)) ++ (byte_text (slice_index bytes (at + 2)) ++ (byte_text (slice_index bytes (at + 1)) ++ byte_text (slice_index bytes at))))

-- Four words, the lowest first. (The text format writes a vector's shape before them, and lanes as
-- numbers.)
abbrev pub words_text : List ℕ → List ℕ
words_text bytes = word_text bytes 0 ++ (word_text bytes 4 ++ (word_text bytes 8 ++ word_text bytes 12))

abbrev pub abstract_name : AbstractHeapType → List ℕ
abstract_name ty.Func = codes "func"
abstract_name ty.Extern = codes "extern"
abstract_name ty.Any = codes "any"
abstract_name ty.None = codes "none"
abstract_name ty.NoExtern = codes "noextern"
abstract_name ty.NoFunc = codes "nofunc"
abstract_name ty.Eq = codes "eq"
abstract_name ty.Struct = codes "struct"
abstract_name ty.Array = codes "array"
abstract_name ty.I31 = codes "i31"
abstract_name ty.Exn = codes "exn"
abstract_name ty.NoExn = codes "noexn"
abstract_name ty.Cont = codes "cont"
abstract_name ty.NoCont = codes "nocont"

abbrev pub heap_type_text : HeapType → List ℕ
heap_type_text (heap.Abstract true ty) = codes " (shared " ++ (abstract_name ty ++ codes ")")
heap_type_text (heap.Abstract false ty) = codes " " ++ abstract_name ty
heap_type_text (heap.Concrete index) = number_text index
heap_type_text (heap.Exact index) = codes " (exact " ++ (decimal index ++ codes ")")

abbrev pub reference_words : Bool → HeapType → List ℕ
reference_words true heap = codes " (ref null" ++ (heap_type_text heap ++ codes ")")
reference_words false heap = codes " (ref" ++ (heap_type_text heap ++ codes ")")

-- A reference type: `funcref`, `externref`, or in full.
abbrev pub reference_text : Bool → HeapType → List ℕ
reference_text true (heap.Abstract false ty.Func) = codes " funcref"
reference_text true (heap.Abstract false ty.Extern) = codes " externref"
reference_text nullable heap = reference_words nullable heap

abbrev pub value_type_text : ValType → List ℕ
value_type_text value.I32 = codes " i32"
value_type_text value.I64 = codes " i64"
value_type_text value.F32 = codes " f32"
value_type_text value.F64 = codes " f64"
value_type_text value.V128 = codes " v128"
value_type_text (value.Ref r) = reference_text r.nullable r.heap_type

-- Nothing, the result type, or a function type's index. (The text format: `(result i32)`, `(type
-- 1)`.)
abbrev pub block_type_text : BlockType → List ℕ
block_type_text block.Empty = []
block_type_text (block.Value ty) = value_type_text ty
block_type_text (block.FuncType index) = codes " type[" ++ (decimal index ++ codes "]")

abbrev pub branch_table_text : BranchTable → List ℕ
branch_table_text t = flat_map number_text (numbers_of t.targets) ++ number_text t.default

abbrev pub catch_text : Catch → List ℕ
catch_text (clause.One tag label) = codes " (catch" ++ (number_text tag ++ (number_text label ++ codes ")"))
catch_text (clause.OneRef tag label) = codes " (catch_ref" ++ (number_text tag ++ (number_text label ++ codes ")"))
catch_text (clause.All label) = codes " (catch_all" ++ (number_text label ++ codes ")")
catch_text (clause.AllRef label) = codes " (catch_all_ref" ++ (number_text label ++ codes ")")

abbrev pub try_table_text : TryTable → List ℕ
try_table_text t = block_type_text t.ty ++ flat_map catch_text t.catches

abbrev pub handle_text : Handle → List ℕ
handle_text (handle.OnLabel tag label) = codes " (on" ++ (number_text tag ++ (number_text label ++ codes ")"))
handle_text (handle.OnSwitch tag) = codes " (on" ++ (number_text tag ++ codes " switch)")

abbrev pub resume_table_text : ResumeTable → List ℕ
resume_table_text t = flat_map handle_text t.handlers

-- A memory ordering.
abbrev pub order_text : Ordering → List ℕ
order_text SeqCst = codes " seq_cst"
order_text AcqRel = codes " acq_rel"

-- A fence's ordering: 0 for `SeqCst`. (The text format: nothing for `SeqCst`.)
abbrev pub fence_text : Ordering → List ℕ
fence_text SeqCst = codes " 0"
fence_text AcqRel = codes " acq_rel"

-- The index of the memory, unless it is 0, or the type of the array.
abbrev pub target_text : MemArgTarget → List ℕ
target_text (target.Memory index) = cond (eqb index 0) [] (number_text index)
target_text (target.Array index) = codes " (type " ++ (decimal index ++ codes ")")

abbrev pub announced_text : Option MemArgOrdering → List ℕ
announced_text None = []
announced_text (Some (ordering.Op o)) = order_text o
announced_text (Some (ordering.Rmw o)) = order_text o

-- Alignment exponent, target, offset and ordering. (Text format: `offset=`, and the alignment after
-- `align=`.)
abbrev pub memory_argument_text : MemArg → List ℕ
memory_argument_text m = number_text m.align ++ (target_text m.target ++ (number_text m.offset ++ announced_text m.ordering))
