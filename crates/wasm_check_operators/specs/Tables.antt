-- The types of operators on tables, elements, data and memories, if the indices are in range.
-- WebAssembly Core Specification 3.0: Validation, Table Instructions and Memory Instructions.
use Rattle.std.specs.Prelude.{Bool, false, if◌then◌else◌, [], ◌∷◌}
use Rattle.wasm_below.specs.Reference.{Reference}
use Rattle.wasm_typing.specs.declared.value_type.ValueType.TheVariants.{I32}
use Rattle.wasm_typing.specs.Matching.{TypeOrder, matches}
use Rattle.wasm_typing.specs.Rules.{Rule, fixed}
use Rattle.wasm_check_control.specs.Environment.{Table}
use Rattle.wasm_check_operators.specs.Forms.{only_if, address, reference}

abbrev pub table_get : Table → Rule
table_get t = fixed (address t.is_64 ∷ []) (reference t.element ∷ [])

abbrev pub table_set : Table → Rule
table_set t = fixed (reference t.element ∷ address t.is_64 ∷ []) []

abbrev pub table_size : Table → Rule
table_size t = fixed [] (address t.is_64 ∷ [])

abbrev pub table_grow : Table → Rule
table_grow t = fixed (address t.is_64 ∷ reference t.element ∷ []) (address t.is_64 ∷ [])

abbrev pub table_fill : Table → Rule
table_fill t = fixed (address t.is_64 ∷ reference t.element ∷ address t.is_64 ∷ []) []

abbrev pub both : Bool → Bool → Bool
both a b = if a then b else false

-- What copies between two tables or memories takes, the destination first: the number has type i64
-- if both have addresses of this type.
abbrev pub copy : Bool → Bool → Rule
copy a b = fixed (address (both a b) ∷ address b ∷ address a ∷ []) []

-- What copies from a segment takes. The place in the segment and the number have type i32.
abbrev pub init : Bool → Rule
init a = fixed (I32 ∷ I32 ∷ address a ∷ []) []

-- The elements of the source match the elements of the destination.
abbrev pub table_copy : TypeOrder → Table → Table → Rule
table_copy O to from = only_if (matches O (reference from.element) (reference to.element)) (copy to.is_64 from.is_64)

abbrev pub table_init : TypeOrder → Table → Reference → Rule
table_init O to from = only_if (matches O (reference from) (reference to.element)) (init to.is_64)

abbrev pub elem_drop : Reference → Rule
elem_drop r = fixed [] []
