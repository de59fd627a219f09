-- Types of a group as numbers, by which an equal group is found. Groups that start at different
-- indices are equal if and only if they have the same numbers.
-- WebAssembly Core Specification 3.0: Validation, Conventions, Types (rolling).
use Rattle.std.specs.Prelude.{◌≡◌, ℕ, suc, ◌+◌, ◌-◌, ◌*◌, ◌<◌, nat_lt, if◌then◌else◌, cond, Bool, true, false, List, [], ◌∷◌, ◌++◌, map, length, Option, Some, None}
use Rattle.std.specs.List.{slice_get}
use Rattle.std.specs.Global.{Vec}
use Rattle.std.specs.Map.{lookup}
use Rattle.std.specs.Ordering.{is_eq, nat_cmp}
use Rattle.std.specs.Cmp.Lexicographic.{slice_cmp}
use Rattle.wasm_below.specs.declared.types.HeapType.{HeapType}
use Rattle.wasm_below.specs.declared.types.HeapType.TheVariants as heap_type
use Rattle.wasm_below.specs.declared.types.ValType.{ValType}
use Rattle.wasm_below.specs.declared.types.ValType.TheVariants as value
use Rattle.wasm_below.specs.TypeEncoding.{heap_type_byte}
use Rattle.wasm_types.specs.declared.composites.CompositeInnerType.{CompositeInnerType}
use Rattle.wasm_types.specs.declared.composites.CompositeInnerType.TheVariants as inner
use Rattle.wasm_types.specs.declared.fields.FieldType.{FieldType}
use Rattle.wasm_types.specs.declared.fields.StorageType.{StorageType}
use Rattle.wasm_types.specs.declared.fields.StorageType.TheVariants as storage
use Rattle.wasm_types.specs.declared.recursive.SubType.{SubType}
use Rattle.wasm_subtypes.specs.declared.defined.Defined.{Defined}
use Rattle.wasm_subtypes.specs.Types.{identity, IsOutside}

-- A type index in a group that starts at `start`: odd with the place of a type of the group, even
-- with the identity of a type before it.
abbrev pub use_number : List Defined → ℕ → ℕ → ℕ
use_number types start x = if nat_lt x start then 2 * identity types x else 2 * (x - start) + 1

abbrev pub bit : Bool → ℕ
bit false = 0
bit true = 1

abbrev pub heap_number : (ℕ → ℕ) → HeapType → ℕ
heap_number f (heap_type.Abstract s t) = 4 * heap_type_byte t + bit s
heap_number f (heap_type.Concrete x) = 4 * f x + 2
heap_number f (heap_type.Exact x) = 4 * f x + 3

abbrev pub value_number : (ℕ → ℕ) → ValType → ℕ
value_number f value.I32 = 0
value_number f value.I64 = 1
value_number f value.F32 = 2
value_number f value.F64 = 3
value_number f value.V128 = 4
value_number f (value.Ref r) = 5 + 2 * heap_number f r.heap_type + bit r.nullable

abbrev pub storage_number : (ℕ → ℕ) → StorageType → ℕ
storage_number f storage.I8 = 0
storage_number f storage.I16 = 1
storage_number f (storage.Val v) = 2 + value_number f v

abbrev pub field_number : (ℕ → ℕ) → FieldType → ℕ
field_number f t = 2 * storage_number f t.element_type + bit t.mutable

-- The kind, the lengths of the lists, and their types.
abbrev pub inner_numbers : (ℕ → ℕ) → CompositeInnerType → List ℕ
inner_numbers f (inner.Func t) = 0 ∷ length t.params ∷ length t.results ∷ (map (value_number f) t.params ++ map (value_number f) t.results)
inner_numbers f (inner.Array t) = 1 ∷ field_number f t.0 ∷ []
inner_numbers f (inner.Struct t) = 2 ∷ length t.fields ∷ map (field_number f) t.fields
inner_numbers f (inner.Cont t) = 3 ∷ f t.0 ∷ []

abbrev pub super_number : (ℕ → ℕ) → Option ℕ → ℕ
super_number f None = 0
super_number f (Some x) = suc (f x)

abbrev pub type_numbers : (ℕ → ℕ) → SubType → List ℕ
type_numbers f t = (2 * bit t.is_final + bit t.composite_type.shared) ∷ super_number f t.supertype_idx ∷ inner_numbers f t.composite_type.inner

abbrev pub group_numbers : (ℕ → ℕ) → List SubType → List ℕ
group_numbers f [] = []
group_numbers f (t ∷ group) = type_numbers f t ++ group_numbers f group

-- The start that is kept for a group with these numbers.
abbrev pub start_of : List ℕ → List (Vec ℕ × ℕ) → Option ℕ
start_of numbers entries = lookup (λ (k : Vec ℕ). is_eq (slice_cmp nat_cmp numbers k.items)) entries

-- A type in a place of a group that equals no group before it.
abbrev pub IsMember : List Defined → ℕ → ℕ → SubType → Type 0
IsMember types start place ty = (d : Defined) × (slice_get types (start + place) ≡ Some d) × (d.ty ≡ ty) × (d.first ≡ start) × (d.identity ≡ start + place)

-- These are the types of the group that starts at `start`, which equals no group before it.
pub record IsGroupAt (types : List Defined) (start : ℕ) (group : List SubType) : Type 0 where
  pub members : (r : ℕ) (ty : SubType) → slice_get group r ≡ Some ty → IsMember types start r ty
  pub ends : IsOutside start (slice_get types (start + length group))

-- The numbers of a group that starts at `start`.
abbrev pub HasNumbers : List Defined → ℕ → List SubType → List ℕ → Type 0
HasNumbers types start group numbers = (f : ℕ → ℕ) × ((x : ℕ) → f x ≡ use_number types start x) × (numbers ≡ group_numbers f group)

-- The entries have each group that equals none before it, by its numbers, and nothing else.
pub record AreIndexed (types : List Defined) (entries : List (Vec ℕ × ℕ)) : Type 0 where
  pub hits : (numbers : List ℕ) (start : ℕ) → start_of numbers entries ≡ Some start →
      (start < length types) × (group : List SubType) × IsGroupAt types start group × HasNumbers types start group numbers
  pub starts : (start : ℕ) (d : Defined) → slice_get types start ≡ Some d → d.first ≡ start → d.identity ≡ start →
      (group : List SubType) × IsGroupAt types start group × (numbers : List ℕ) × HasNumbers types start group numbers × (start_of numbers entries ≡ Some start)

-- What an insertion of a key with these numbers does to the entries.
abbrev pub Puts : List (Vec ℕ × ℕ) → List (Vec ℕ × ℕ) → List ℕ → ℕ → Type 0
Puts old new numbers start =
    ((k : Vec ℕ) → start_of k.items new ≡ cond (is_eq (slice_cmp nat_cmp numbers k.items)) (Some start) (start_of k.items old)) × (start_of numbers new ≡ Some start)
