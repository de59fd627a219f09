-- Types of a type section, in the form of wabt's `wasm-objdump -x`. Specification: Types, Composite
-- Types, Recursive Types.
use Rattle.std.specs.Prelude.{ℕ, List, [], ◌∷◌, ◌++◌, Bool, true, false, Option, Some, None, codes, decimal, drop, flat_map}
use Rattle.wasm_below.specs.declared.types.ValType.{ValType}
use Rattle.wasm_text.specs.Values.{number_text, value_type_text}
use Rattle.wasm_types.specs.declared.composites.CompositeInnerType.{CompositeInnerType}
use Rattle.wasm_types.specs.declared.composites.CompositeInnerType.TheVariants as inner
use Rattle.wasm_types.specs.declared.composites.CompositeType.{CompositeType}
use Rattle.wasm_types.specs.declared.fields.FieldType.{FieldType}
use Rattle.wasm_types.specs.declared.fields.StorageType.{StorageType}
use Rattle.wasm_types.specs.declared.fields.StorageType.TheVariants as storage
use Rattle.wasm_types.specs.declared.functions.FuncType.{FuncType}
use Rattle.wasm_types.specs.declared.recursive.RecGroup.{RecGroup}
use Rattle.wasm_types.specs.declared.recursive.SubType.{SubType}
use Rattle.wasm_types.specs.Types.{types_of}
use Rattle.wasm_details.specs.declared.place.Place.{Place}
use Rattle.wasm_details.specs.Places.{after_index}

-- The name of a value type, without the space before it.
abbrev pub type_name : ValType → List ℕ
type_name ty = drop 1 (value_type_text ty)

-- A type after a comma.
abbrev pub next_type : ValType → List ℕ
next_type ty = codes ", " ++ type_name ty

-- Types, with commas between them.
abbrev pub joined_types : List ValType → List ℕ
joined_types [] = []
joined_types (ty ∷ types) = type_name ty ++ flat_map next_type types

-- Types in parentheses.
abbrev pub types_text : List ValType → List ℕ
types_text types = codes "(" ++ (joined_types types ++ codes ")")

-- The types of results: a single type without parentheses.
abbrev pub results_text : List ValType → List ℕ
results_text [] = codes "nil"
results_text (ty ∷ []) = type_name ty
results_text types = types_text types

-- The types of parameters and results.
abbrev pub signature_text : FuncType → List ℕ
signature_text f = types_text f.params ++ (codes " -> " ++ results_text f.results)

-- The type of a field, after a space.
abbrev pub storage_text : StorageType → List ℕ
storage_text storage.I8 = codes " i8"
storage_text storage.I16 = codes " i16"
storage_text (storage.Val ty) = value_type_text ty

-- The type of a field that is mutable or not.
abbrev pub field_by : Bool → StorageType → List ℕ
field_by true ty = codes " (mut" ++ (storage_text ty ++ codes ")")
field_by false ty = storage_text ty

-- The type of a field.
abbrev pub field_text : FieldType → List ℕ
field_text f = field_by f.mutable f.element_type

-- The type of a function, struct, array or continuation.
abbrev pub inner_text : CompositeInnerType → List ℕ
inner_text (inner.Func f) = signature_text f
inner_text (inner.Struct s) = codes "(struct" ++ (flat_map field_text s.fields ++ codes ")")
inner_text (inner.Array a) = codes "(array" ++ (field_text a.0 ++ codes ")")
inner_text (inner.Cont c) = codes "(cont" ++ (number_text c.0 ++ codes ")")

-- A shared type is in parentheses.
abbrev pub composite_by : Bool → CompositeInnerType → List ℕ
composite_by true ty = codes "(shared " ++ (inner_text ty ++ codes ")")
composite_by false ty = inner_text ty

-- A type that is shared or not.
abbrev pub composite_text : CompositeType → List ℕ
composite_text ty = composite_by ty.shared ty.inner

-- The index of the supertype, if there is one.
abbrev pub supertype_text : Option ℕ → List ℕ
supertype_text None = []
supertype_text (Some index) = number_text index

-- Whether the type is final.
abbrev pub final_text : Bool → List ℕ
final_text true = codes "(sub final"
final_text false = codes "(sub"

-- A type with its supertype.
abbrev pub declared_text : SubType → List ℕ
declared_text ty = final_text ty.is_final ++ (supertype_text ty.supertype_idx ++ (codes " " ++ (composite_text ty.composite_type ++ codes ")")))

-- A final type without supertypes is shown alone.
abbrev pub sub_by : Bool → Option ℕ → SubType → List ℕ
sub_by true None ty = composite_text ty.composite_type
sub_by _ _ ty = declared_text ty

-- A type.
abbrev pub sub_text : SubType → List ℕ
sub_text ty = sub_by ty.is_final ty.supertype_idx ty

-- The index of a type, and the type.
abbrev pub type_line : ℕ → SubType → List ℕ
type_line index ty = codes " - type[" ++ (decimal index ++ (codes "] " ++ (sub_text ty ++ codes "\n")))

-- A line for each type, of which the first has this index.
abbrev pub type_lines : ℕ → List SubType → List ℕ
type_lines index [] = []
type_lines index (ty ∷ types) = type_line index ty ++ type_lines (after_index index) types

-- The index after these types.
abbrev pub after_types : ℕ → List SubType → ℕ
after_types index [] = index
after_types index (ty ∷ types) = after_types (after_index index) types

-- The types of a group.
abbrev pub group_lines : Place → RecGroup → List ℕ
group_lines place group = type_lines place.next (types_of group)

-- The place after the types of a group.
abbrev pub after_group : Place → RecGroup → Place
after_group place group = record { next = after_types place.next (types_of group); address = place.address; imported = place.imported }
