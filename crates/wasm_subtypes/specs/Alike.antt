-- Two types that differ in nothing but type indices, which a relation compares.
-- WebAssembly Core Specification 3.0: Structure, Types.
use Rattle.std.specs.Prelude.{◌≡◌, ℕ, List, [], ◌∷◌, Option, Some, None}
use Rattle.wasm_below.specs.declared.types.HeapType.{HeapType}
use Rattle.wasm_below.specs.declared.types.HeapType.TheVariants as heap_type
use Rattle.wasm_below.specs.declared.types.ValType.{ValType}
use Rattle.wasm_below.specs.declared.types.ValType.TheVariants as value
use Rattle.wasm_below.specs.Reference.{Reference}
use Rattle.wasm_types.specs.declared.composites.CompositeInnerType.{CompositeInnerType}
use Rattle.wasm_types.specs.declared.composites.CompositeInnerType.TheVariants as inner
use Rattle.wasm_types.specs.declared.fields.FieldType.{FieldType}
use Rattle.wasm_types.specs.declared.fields.StorageType.{StorageType}
use Rattle.wasm_types.specs.declared.fields.StorageType.TheVariants as storage
use Rattle.wasm_types.specs.declared.recursive.SubType.{SubType}

abbrev pub AlikeHeap : (ℕ → ℕ → Type 0) → HeapType → HeapType → Type 0
AlikeHeap R (heap_type.Abstract s t) (heap_type.Abstract r u) = (s ≡ r) × (t ≡ u)
AlikeHeap R (heap_type.Concrete x) (heap_type.Concrete y) = R x y
AlikeHeap R (heap_type.Exact x) (heap_type.Exact y) = R x y
AlikeHeap R _ _ = ⊥

abbrev pub AlikeReference : (ℕ → ℕ → Type 0) → Reference → Reference → Type 0
AlikeReference R a b = (a.nullable ≡ b.nullable) × AlikeHeap R a.heap_type b.heap_type

abbrev pub AlikeValue : (ℕ → ℕ → Type 0) → ValType → ValType → Type 0
AlikeValue R value.I32 value.I32 = Unit {0}
AlikeValue R value.I64 value.I64 = Unit {0}
AlikeValue R value.F32 value.F32 = Unit {0}
AlikeValue R value.F64 value.F64 = Unit {0}
AlikeValue R value.V128 value.V128 = Unit {0}
AlikeValue R (value.Ref a) (value.Ref b) = AlikeReference R a b
AlikeValue R _ _ = ⊥

abbrev pub AlikeStorage : (ℕ → ℕ → Type 0) → StorageType → StorageType → Type 0
AlikeStorage R storage.I8 storage.I8 = Unit {0}
AlikeStorage R storage.I16 storage.I16 = Unit {0}
AlikeStorage R (storage.Val a) (storage.Val b) = AlikeValue R a b
AlikeStorage R _ _ = ⊥

abbrev pub AlikeField : (ℕ → ℕ → Type 0) → FieldType → FieldType → Type 0
AlikeField R a b = (a.mutable ≡ b.mutable) × AlikeStorage R a.element_type b.element_type

-- Lists of the same length, in which a relation holds of the elements at each index.
abbrev pub Each : {A : Type 0} → (A → A → Type 0) → List A → List A → Type 0
Each P [] [] = Unit {0}
Each P (a ∷ as_) (b ∷ bs) = P a b × Each P as_ bs
Each P _ _ = ⊥

abbrev pub AlikeInner : (ℕ → ℕ → Type 0) → CompositeInnerType → CompositeInnerType → Type 0
AlikeInner R (inner.Func a) (inner.Func b) = Each (AlikeValue R) a.params b.params × Each (AlikeValue R) a.results b.results
AlikeInner R (inner.Array a) (inner.Array b) = AlikeField R a.0 b.0
AlikeInner R (inner.Struct a) (inner.Struct b) = Each (AlikeField R) a.fields b.fields
AlikeInner R (inner.Cont a) (inner.Cont b) = R a.0 b.0
AlikeInner R _ _ = ⊥

abbrev pub AlikeOptional : (ℕ → ℕ → Type 0) → Option ℕ → Option ℕ → Type 0
AlikeOptional R None None = Unit {0}
AlikeOptional R (Some x) (Some y) = R x y
AlikeOptional R _ _ = ⊥

pub record Alike (R : ℕ → ℕ → Type 0) (a b : SubType) : Type 0 where
  pub finality : a.is_final ≡ b.is_final
  pub super : AlikeOptional R a.supertype_idx b.supertype_idx
  pub shared : a.composite_type.shared ≡ b.composite_type.shared
  pub composite : AlikeInner R a.composite_type.inner b.composite_type.inner
