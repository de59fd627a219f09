-- The types of casts. WebAssembly Core Specification 3.0: Validation, Reference Instructions and
-- Control Instructions; Types, Heap Types.
use Rattle.std.specs.Prelude.{Bool, true, false, if◌then◌else◌, List, [], ◌∷◌, Option, Some}
use Rattle.wasm_below.specs.Reference.{Reference}
use Rattle.wasm_below.specs.declared.types.AbstractHeapType.{AbstractHeapType}
use Rattle.wasm_below.specs.declared.types.AbstractHeapType.TheVariants as ty
use Rattle.wasm_below.specs.declared.types.HeapType.{HeapType}
use Rattle.wasm_below.specs.declared.types.HeapType.TheVariants as heap_type
use Rattle.wasm_instr_ops.specs.declared.gc.GcOperator.{GcOperator}
use Rattle.wasm_instr_ops.specs.declared.gc.GcOperator.TheVariants as gc
use Rattle.wasm_signatures.specs.Gc.{gc_typing}
use Rattle.wasm_typing.specs.declared.value_type.ValueType.{ValueType}
use Rattle.wasm_typing.specs.declared.value_type.ValueType.TheVariants.{I32, Ref}
use Rattle.wasm_typing.specs.declared.value_type.Heap.TheVariants.{Known}
use Rattle.wasm_typing.specs.Types.{Stack}
use Rattle.wasm_typing.specs.Matching.{TypeOrder, CompositeKind, of_function, abstract, matches}
use Rattle.wasm_typing.specs.Rules.{Rule, fixed, invalid, converts, at, or_invalid}
use Rattle.wasm_check_control.specs.Environment.{Environment}
use Rattle.wasm_types.specs.declared.fields.FieldType.{FieldType}
use Rattle.wasm_check_operators.specs.Aggregates.{struct_new, struct_new_default, struct_get, struct_set, array_new, array_new_default, array_new_fixed, array_new_data, array_new_elem, array_get, array_set, array_fill, array_copy, array_init_data, array_init_elem}
use Rattle.wasm_check_operators.specs.Forms.{is_valid_heap, only_if, reference, by_typing, fixed_at}

-- The greatest type of the hierarchy of an abstract heap type.
abbrev pub top_of_abstract : AbstractHeapType → AbstractHeapType
top_of_abstract ty.Func = ty.Func
top_of_abstract ty.NoFunc = ty.Func
top_of_abstract ty.Extern = ty.Extern
top_of_abstract ty.NoExtern = ty.Extern
top_of_abstract ty.Exn = ty.Exn
top_of_abstract ty.NoExn = ty.Exn
top_of_abstract _ = ty.Any

abbrev pub top_of_kind : Option CompositeKind → AbstractHeapType
top_of_kind (Some of_function) = ty.Func
top_of_kind _ = ty.Any

-- The greatest type of the hierarchy of a valid heap type.
abbrev pub top_of : TypeOrder → HeapType → AbstractHeapType
top_of O (heap_type.Abstract s t) = top_of_abstract t
top_of O (heap_type.Concrete i) = top_of_kind (O.kind i)
top_of O (heap_type.Exact i) = ty.Any

-- ref.test, ref.cast: an operand of the same hierarchy.
abbrev pub cast : TypeOrder → HeapType → ValueType → Rule
cast O h leaves = only_if (is_valid_heap O h) (fixed (Ref true (abstract false (top_of O h)) ∷ []) (leaves ∷ []))

-- What is left of a reference type if a cast to the other fails. Section Reference Types.
abbrev pub difference : Reference → Reference → ValueType
difference from to = Ref (if to.nullable then false else from.nullable) (Known from.heap_type)

-- The operand `from` is `goes` at the label and `stays` without a branch. The last type of the label
-- is a supertype of `goes`.
abbrev pub cast_branch : TypeOrder → ValueType → ValueType → ValueType → Stack → Rule
cast_branch O from goes stays [] = invalid
cast_branch O from goes stays (v ∷ s) = only_if (matches O goes v) (fixed (from ∷ s) (stays ∷ s))

-- Both types are valid, and the second matches the first.
abbrev pub is_cast : TypeOrder → Reference → Reference → Bool
is_cast O from to = if is_valid_heap O from.heap_type then (if is_valid_heap O to.heap_type then matches O (reference to) (reference from) else false) else false

abbrev pub br_on_cast : Environment → Reference → Reference → Option Stack → Rule
br_on_cast E from to label = only_if (is_cast E.order from to) (or_invalid (cast_branch E.order (reference from) (reference to) (difference from to)) label)

abbrev pub br_on_cast_fail : Environment → Reference → Reference → Option Stack → Rule
br_on_cast_fail E from to label = only_if (is_cast E.order from to) (or_invalid (cast_branch E.order (reference from) (difference from to) (reference to)) label)

-- The rule of an operator with the prefix byte 0xfb.
abbrev pub gc_rule : Environment → List Stack → GcOperator → Rule
gc_rule E labels (gc.RefTestNonNull h) = cast E.order h I32
gc_rule E labels (gc.RefTestNullable h) = cast E.order h I32
gc_rule E labels (gc.RefCastNonNull h) = cast E.order h (Ref false (Known h))
gc_rule E labels (gc.RefCastNullable h) = cast E.order h (Ref true (Known h))
gc_rule E labels (gc.BrOnCast l from to) = br_on_cast E from to (at labels l)
gc_rule E labels (gc.BrOnCastFail l from to) = br_on_cast_fail E from to (at labels l)
gc_rule E labels gc.AnyConvertExtern = converts (heap_type.Abstract false ty.Extern) (heap_type.Abstract false ty.Any)
gc_rule E labels gc.ExternConvertAny = converts (heap_type.Abstract false ty.Any) (heap_type.Abstract false ty.Extern)
gc_rule E labels (gc.StructNew x) = or_invalid (struct_new x) (E.structures x)
gc_rule E labels (gc.StructNewDefault x) = or_invalid (struct_new_default x) (E.structures x)
gc_rule E labels (gc.StructGet x i) = or_invalid (struct_get false x i) (E.structures x)
gc_rule E labels (gc.StructGetS x i) = or_invalid (struct_get true x i) (E.structures x)
gc_rule E labels (gc.StructGetU x i) = or_invalid (struct_get true x i) (E.structures x)
gc_rule E labels (gc.StructSet x i) = or_invalid (struct_set x i) (E.structures x)
gc_rule E labels (gc.ArrayNew x) = or_invalid (array_new x) (E.arrays x)
gc_rule E labels (gc.ArrayNewDefault x) = or_invalid (array_new_default x) (E.arrays x)
gc_rule E labels (gc.ArrayNewFixed x n) = or_invalid (array_new_fixed x n) (E.arrays x)
gc_rule E labels (gc.ArrayNewData x y) = or_invalid (array_new_data E x y) (E.arrays x)
gc_rule E labels (gc.ArrayNewElem x y) = or_invalid (array_new_elem E x y) (E.arrays x)
gc_rule E labels (gc.ArrayGet x) = or_invalid (array_get false x) (E.arrays x)
gc_rule E labels (gc.ArrayGetS x) = or_invalid (array_get true x) (E.arrays x)
gc_rule E labels (gc.ArrayGetU x) = or_invalid (array_get true x) (E.arrays x)
gc_rule E labels (gc.ArraySet x) = or_invalid (array_set x) (E.arrays x)
gc_rule E labels (gc.ArrayFill x) = or_invalid (array_fill x) (E.arrays x)
gc_rule E labels (gc.ArrayCopy x y) = or_invalid (λ (f : FieldType). or_invalid (array_copy E.order x y f) (E.arrays y)) (E.arrays x)
gc_rule E labels (gc.ArrayInitData x y) = or_invalid (array_init_data E x y) (E.arrays x)
gc_rule E labels (gc.ArrayInitElem x y) = or_invalid (array_init_elem E x y) (E.arrays x)
gc_rule E labels op = by_typing (fixed_at false) (gc_typing op)
