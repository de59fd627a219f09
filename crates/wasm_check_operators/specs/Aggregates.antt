-- The types of operators on structures and arrays.
-- WebAssembly Core Specification 3.0: Validation, Aggregate Instructions.
use Rattle.std.specs.Prelude.{ℕ, Bool, true, false, if◌then◌else◌, List, [], ◌∷◌, map, reverse, replicate}
use Rattle.std.specs.List.{slice_get}
use Rattle.wasm_below.specs.Reference.{Reference}
use Rattle.wasm_below.specs.declared.types.ValType.{ValType}
use Rattle.wasm_below.specs.declared.types.ValType.TheVariants as value
use Rattle.wasm_typing.specs.declared.value_type.ValueType.{ValueType}
use Rattle.wasm_typing.specs.declared.value_type.ValueType.TheVariants.{I32, Ref}
use Rattle.wasm_typing.specs.Types.{value_type}
use Rattle.wasm_typing.specs.Matching.{TypeOrder, defined, matches}
use Rattle.wasm_typing.specs.Rules.{Rule, fixed, or_invalid}
use Rattle.wasm_check_control.specs.Environment.{Environment}
use Rattle.wasm_types.specs.Types.{is_packed, unpacked}
use Rattle.wasm_types.specs.declared.fields.FieldType.{FieldType}
use Rattle.wasm_types.specs.declared.fields.StorageType.{StorageType}
use Rattle.wasm_types.specs.declared.fields.StorageType.TheVariants as storage
use Rattle.wasm_check_operators.specs.Forms.{only_if}

-- The operand of a field, unpacked.
abbrev pub operand : FieldType → ValueType
operand f = value_type (unpacked f.element_type)

-- References to the type with this index, null or not.
abbrev pub or_null : ℕ → ValueType
or_null x = Ref true (defined x)

abbrev pub not_null : ℕ → ValueType
not_null x = Ref false (defined x)

-- Section Types, Defaultable Types: all but references that are not null.
abbrev pub is_defaultable : ValType → Bool
is_defaultable (value.Ref r) = r.nullable
is_defaultable _ = true

abbrev pub has_default : FieldType → Bool
has_default f = is_defaultable (unpacked f.element_type)

abbrev pub have_defaults : List FieldType → Bool
have_defaults [] = true
have_defaults (f ∷ fs) = if has_default f then have_defaults fs else false

-- A number or vector type, or packed.
abbrev pub is_numeric : StorageType → Bool
is_numeric (storage.Val (value.Ref r)) = false
is_numeric _ = true

-- Section Storage Types: packed types match themselves alone.
abbrev pub storage_matches : TypeOrder → StorageType → StorageType → Bool
storage_matches O storage.I8 storage.I8 = true
storage_matches O storage.I16 storage.I16 = true
storage_matches O (storage.Val v) (storage.Val w) = matches O (value_type v) (value_type w)
storage_matches O _ _ = false

-- Whether an access extends a packed field.
abbrev pub same : Bool → Bool → Bool
same true b = b
same false b = if b then false else true

abbrev pub struct_new : ℕ → List FieldType → Rule
struct_new x fs = fixed (reverse (map operand fs)) (not_null x ∷ [])

abbrev pub struct_new_default : ℕ → List FieldType → Rule
struct_new_default x fs = only_if (have_defaults fs) (fixed [] (not_null x ∷ []))

-- struct.get, and with `extends`, struct.get_s and struct.get_u.
abbrev pub struct_get : Bool → ℕ → ℕ → List FieldType → Rule
struct_get extends x i fs =
    or_invalid (λ (f : FieldType). only_if (same extends (is_packed f.element_type)) (fixed (or_null x ∷ []) (operand f ∷ []))) (slice_get fs i)

abbrev pub struct_set : ℕ → ℕ → List FieldType → Rule
struct_set x i fs = or_invalid (λ (f : FieldType). only_if f.mutable (fixed (operand f ∷ or_null x ∷ []) [])) (slice_get fs i)

abbrev pub array_new : ℕ → FieldType → Rule
array_new x f = fixed (I32 ∷ operand f ∷ []) (not_null x ∷ [])

abbrev pub array_new_default : ℕ → FieldType → Rule
array_new_default x f = only_if (has_default f) (fixed (I32 ∷ []) (not_null x ∷ []))

abbrev pub array_new_fixed : ℕ → ℕ → FieldType → Rule
array_new_fixed x n f = fixed (replicate n (operand f)) (not_null x ∷ [])

-- From a place in a segment, so many elements.
abbrev pub array_from : ℕ → Rule
array_from x = fixed (I32 ∷ I32 ∷ []) (not_null x ∷ [])

abbrev pub array_new_data : Environment → ℕ → ℕ → FieldType → Rule
array_new_data E x y f = only_if (E.has_data y) (only_if (is_numeric f.element_type) (array_from x))

-- The references of a segment match the elements.
abbrev pub holds : TypeOrder → FieldType → Reference → Bool
holds O f r = storage_matches O (storage.Val (value.Ref r)) f.element_type

abbrev pub array_new_elem : Environment → ℕ → ℕ → FieldType → Rule
array_new_elem E x y f = or_invalid (λ (r : Reference). only_if (holds E.order f r) (array_from x)) (E.elements y)

abbrev pub array_get : Bool → ℕ → FieldType → Rule
array_get extends x f = only_if (same extends (is_packed f.element_type)) (fixed (I32 ∷ or_null x ∷ []) (operand f ∷ []))

abbrev pub array_set : ℕ → FieldType → Rule
array_set x f = only_if f.mutable (fixed (operand f ∷ I32 ∷ or_null x ∷ []) [])

abbrev pub array_fill : ℕ → FieldType → Rule
array_fill x f = only_if f.mutable (fixed (I32 ∷ operand f ∷ I32 ∷ or_null x ∷ []) [])

-- The destination is first.
abbrev pub array_copy : TypeOrder → ℕ → ℕ → FieldType → FieldType → Rule
array_copy O x y f g =
    only_if f.mutable (only_if (storage_matches O g.element_type f.element_type) (fixed (I32 ∷ I32 ∷ or_null y ∷ I32 ∷ or_null x ∷ []) []))

abbrev pub array_init : ℕ → Rule
array_init x = fixed (I32 ∷ I32 ∷ I32 ∷ or_null x ∷ []) []

abbrev pub array_init_data : Environment → ℕ → ℕ → FieldType → Rule
array_init_data E x y f = only_if (E.has_data y) (only_if f.mutable (only_if (is_numeric f.element_type) (array_init x)))

abbrev pub array_init_elem : Environment → ℕ → ℕ → FieldType → Rule
array_init_elem E x y f = or_invalid (λ (r : Reference). only_if f.mutable (only_if (holds E.order f r) (array_init x))) (E.elements y)
