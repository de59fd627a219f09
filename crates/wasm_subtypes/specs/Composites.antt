-- Valid types: each type index in them has a type, and they match their supertypes.
-- WebAssembly Core Specification 3.0: Validation, Types; Matching, Composite Types.
use Rattle.std.specs.Prelude.{◌≡◌, ℕ, ◌<◌, ◌≤◌, Bool, true, List, length, Option, Some, None}
use Rattle.std.specs.List.{slice_get}
use Rattle.wasm_below.specs.declared.types.HeapType.{HeapType}
use Rattle.wasm_below.specs.declared.types.HeapType.TheVariants as heap_type
use Rattle.wasm_below.specs.declared.types.ValType.{ValType}
use Rattle.wasm_below.specs.declared.types.ValType.TheVariants as value
use Rattle.wasm_types.specs.declared.composites.CompositeInnerType.{CompositeInnerType}
use Rattle.wasm_types.specs.declared.composites.CompositeInnerType.TheVariants as inner
use Rattle.wasm_types.specs.declared.composites.CompositeType.{CompositeType}
use Rattle.wasm_types.specs.declared.fields.FieldType.{FieldType}
use Rattle.wasm_types.specs.declared.fields.StorageType.{StorageType}
use Rattle.wasm_types.specs.declared.fields.StorageType.TheVariants as storage
use Rattle.wasm_types.specs.declared.functions.FuncType.{FuncType}
use Rattle.wasm_typing.specs.Types.{value_type}
use Rattle.wasm_typing.specs.Matching.{TypeOrder, Matches}
use Rattle.wasm_subtypes.specs.Alike.{Each}
use Rattle.wasm_subtypes.specs.Types.{order_of}
use Rattle.wasm_subtypes.specs.declared.defined.Defined.{Defined}

-- The property holds of each element.
abbrev pub Every : {A : Type 0} → (A → Type 0) → List A → Type 0
Every {A} P as_ = (k : ℕ) (a : A) → slice_get as_ k ≡ Some a → P a

-- A type index in the type is below `n`.
abbrev pub HeapWithin : ℕ → HeapType → Type 0
HeapWithin n (heap_type.Abstract s t) = Unit {0}
HeapWithin n (heap_type.Concrete x) = x < n
HeapWithin n (heap_type.Exact x) = x < n

abbrev pub ValueWithin : ℕ → ValType → Type 0
ValueWithin n (value.Ref r) = HeapWithin n r.heap_type
ValueWithin n _ = Unit {0}

abbrev pub StorageWithin : ℕ → StorageType → Type 0
StorageWithin n (storage.Val v) = ValueWithin n v
StorageWithin n _ = Unit {0}

abbrev pub FieldWithin : ℕ → FieldType → Type 0
FieldWithin n f = StorageWithin n f.element_type

-- All type indices in a composite type are below `n`. The type of a continuation is not valid.
abbrev pub InnerWithin : ℕ → CompositeInnerType → Type 0
InnerWithin n (inner.Func f) = Every (ValueWithin n) f.params × Every (ValueWithin n) f.results
InnerWithin n (inner.Array a) = FieldWithin n a.0
InnerWithin n (inner.Struct s) = Every (FieldWithin n) s.fields
InnerWithin n (inner.Cont c) = ⊥

-- The value types of a module, as types of operands. Section Value Types.
abbrev pub ValueMatches : TypeOrder → ValType → ValType → Type 0
ValueMatches O a b = Matches O (value_type a) (value_type b)

-- Section Storage Types.
abbrev pub StorageMatches : TypeOrder → StorageType → StorageType → Type 0
StorageMatches O storage.I8 storage.I8 = Unit {0}
StorageMatches O storage.I16 storage.I16 = Unit {0}
StorageMatches O (storage.Val a) (storage.Val b) = ValueMatches O a b
StorageMatches O _ _ = ⊥

-- What is written into a mutable field matches, too.
abbrev pub WritesMatch : TypeOrder → Bool → StorageType → StorageType → Type 0
WritesMatch O true a b = StorageMatches O b a
WritesMatch O _ a b = Unit {0}

-- Section Field Types.
abbrev pub FieldMatches : TypeOrder → FieldType → FieldType → Type 0
FieldMatches O a b = (a.mutable ≡ b.mutable) × StorageMatches O a.element_type b.element_type × WritesMatch O b.mutable a.element_type b.element_type

abbrev pub FieldFits : TypeOrder → Option FieldType → FieldType → Type 0
FieldFits O None b = ⊥
FieldFits O (Some a) b = FieldMatches O a b

-- A structure has at least these fields.
abbrev pub FieldsMatch : TypeOrder → List FieldType → List FieldType → Type 0
FieldsMatch O as_ bs = (k : ℕ) (b : FieldType) → slice_get bs k ≡ Some b → FieldFits O (slice_get as_ k) b

-- Parameters match in the other direction.
abbrev pub FunctionMatches : TypeOrder → FuncType → FuncType → Type 0
FunctionMatches O a b = Each (ValueMatches O) b.params a.params × Each (ValueMatches O) a.results b.results

-- Section Composite Types.
abbrev pub InnerMatches : TypeOrder → CompositeInnerType → CompositeInnerType → Type 0
InnerMatches O (inner.Func a) (inner.Func b) = FunctionMatches O a b
InnerMatches O (inner.Array a) (inner.Array b) = FieldMatches O a.0 b.0
InnerMatches O (inner.Struct a) (inner.Struct b) = FieldsMatch O a.fields b.fields
InnerMatches O _ _ = ⊥

-- The same of types that are both shared between threads or both not.
abbrev pub CompositeMatches : TypeOrder → CompositeType → CompositeType → Type 0
CompositeMatches O a b = (a.shared ≡ b.shared) × InnerMatches O a.inner b.inner

abbrev pub MatchesType : TypeOrder → CompositeType → Option Defined → Type 0
MatchesType O a None = ⊥
MatchesType O a (Some d) = CompositeMatches O a d.ty.composite_type

-- The composite type matches the composite type of the supertype.
abbrev pub MatchesSuper : List Defined → CompositeType → Option ℕ → Type 0
MatchesSuper types a None = Unit {0}
MatchesSuper types a (Some s) = MatchesType (order_of types) a (slice_get types s)

abbrev pub IsValid : List Defined → Option Defined → Type 0
IsValid types None = Unit {0}
IsValid types (Some d) = InnerWithin (length types) d.ty.composite_type.inner × MatchesSuper types d.ty.composite_type d.ty.supertype_idx

-- From an index on, the types are valid: each type index in them has a type, and they match their
-- supertypes.
abbrev pub AreValid : List Defined → ℕ → Type 0
AreValid types first = (i : ℕ) → first ≤ i → IsValid types (slice_get types i)
