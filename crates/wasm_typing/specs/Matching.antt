-- Matching (subtyping) of heap types and value types: the rules, and a test.
-- WebAssembly Core Specification 3.0: Validation, Matching.
use Rattle.std.specs.Prelude.{◌≡◌, ◌≢◌, ℕ, nat_eq, Bool, true, false, if◌then◌else◌, [], ◌∷◌, Option, Some, None}
use Rattle.wasm_below.specs.declared.types.AbstractHeapType.{AbstractHeapType}
use Rattle.wasm_below.specs.declared.types.AbstractHeapType.TheVariants as ty
use Rattle.wasm_below.specs.declared.types.HeapType.{HeapType}
use Rattle.wasm_below.specs.declared.types.HeapType.TheVariants as heap_type
use Rattle.wasm_typing.specs.declared.value_type.ValueType.{ValueType}
use Rattle.wasm_typing.specs.declared.value_type.ValueType.TheVariants.{I32, I64, F32, F64, V128, Bottom, Ref}
use Rattle.wasm_typing.specs.declared.value_type.Heap.{Heap}
use Rattle.wasm_typing.specs.declared.value_type.Heap.TheVariants.{Known, Unknown}
use Rattle.wasm_typing.specs.Types.{Stack}

-- The kinds of composite types.
pub data CompositeKind : Type 0 where
  of_function of_struct of_array : CompositeKind

-- What the types of a module say to matching: whether the type at one index is declared as, or
-- equal to, a subtype of that at another, and the kind of each. An index without a type has no
-- kind.
pub record TypeOrder : Type 0 where
  pub subtype : ℕ → ℕ → Bool
  pub kind : ℕ → Option CompositeKind

-- Defined types match reflexively and transitively, and have the kinds of their supertypes. For a
-- module, this follows from the rules for type sections.
pub record IsOrder (O : TypeOrder) : Type 0 where
  pub itself : (i : ℕ) → O.subtype i i ≡ true
  pub through : (i j k : ℕ) → O.subtype i j ≡ true → O.subtype j k ≡ true → O.subtype i k ≡ true
  pub kinds : (i j : ℕ) → O.subtype i j ≡ true → O.kind i ≡ O.kind j

abbrev pub abstract_of_kind : CompositeKind → AbstractHeapType
abstract_of_kind of_function = ty.Func
abstract_of_kind of_struct = ty.Struct
abstract_of_kind of_array = ty.Array

-- An abstract heap type, shared between threads or not.
abbrev pub abstract : Bool → AbstractHeapType → Heap
abstract shared t = Known (heap_type.Abstract shared t)

abbrev pub defined : ℕ → Heap
defined i = Known (heap_type.Concrete i)

-- Section Heap Types. Exact types and the types of continuations match only themselves.
pub data HeapMatches (O : TypeOrder) : Heap → Heap → Type 0 where
  heap_reflexive : {h : Heap} → HeapMatches O h h
  heap_transitive : {h g k : Heap} → HeapMatches O h g → HeapMatches O g k → HeapMatches O h k
  eq_any : {s : Bool} → HeapMatches O (abstract s ty.Eq) (abstract s ty.Any)
  i31_eq : {s : Bool} → HeapMatches O (abstract s ty.I31) (abstract s ty.Eq)
  struct_eq : {s : Bool} → HeapMatches O (abstract s ty.Struct) (abstract s ty.Eq)
  array_eq : {s : Bool} → HeapMatches O (abstract s ty.Array) (abstract s ty.Eq)
  by_kind : {i : ℕ} {k : CompositeKind} → O.kind i ≡ Some k → HeapMatches O (defined i) (abstract false (abstract_of_kind k))
  declared : {i j : ℕ} → O.subtype i j ≡ true → HeapMatches O (defined i) (defined j)
  none_matches : {s : Bool} {h : Heap} → h ≢ Unknown → HeapMatches O h (abstract s ty.Any) → HeapMatches O (abstract s ty.None) h
  nofunc_matches : {s : Bool} {h : Heap} → h ≢ Unknown → HeapMatches O h (abstract s ty.Func) → HeapMatches O (abstract s ty.NoFunc) h
  noextern_matches : {s : Bool} {h : Heap} → h ≢ Unknown → HeapMatches O h (abstract s ty.Extern) → HeapMatches O (abstract s ty.NoExtern) h
  noexn_matches : {s : Bool} {h : Heap} → h ≢ Unknown → HeapMatches O h (abstract s ty.Exn) → HeapMatches O (abstract s ty.NoExn) h
  bottom_heap : {h : Heap} → HeapMatches O Unknown h

-- A reference that may be null does not match one that may not.
abbrev pub null_matches : Bool → Bool → Bool
null_matches true false = false
null_matches _ _ = true

-- Sections Number Types, Vector Types, Reference Types and Value Types.
pub data Matches (O : TypeOrder) : ValueType → ValueType → Type 0 where
  reflexive : {v : ValueType} → Matches O v v
  by_reference : {n m : Bool} {h g : Heap} → null_matches n m ≡ true → HeapMatches O h g → Matches O (Ref n h) (Ref m g)
  bottom_value : {v : ValueType} → Matches O Bottom v

-- Section Result Types: the same number of types, each matches its counterpart.
abbrev pub AllMatch : TypeOrder → Stack → Stack → Type 0
AllMatch O [] [] = Unit {0}
AllMatch O (sub ∷ subs) (super ∷ supers) = Matches O sub super × AllMatch O subs supers
AllMatch O _ _ = ⊥

-- The supertypes of each abstract heap type.
abbrev pub abstract_matches : AbstractHeapType → AbstractHeapType → Bool
abstract_matches ty.Any ty.Any = true
abstract_matches ty.Eq ty.Eq = true
abstract_matches ty.Eq ty.Any = true
abstract_matches ty.I31 ty.I31 = true
abstract_matches ty.I31 ty.Eq = true
abstract_matches ty.I31 ty.Any = true
abstract_matches ty.Struct ty.Struct = true
abstract_matches ty.Struct ty.Eq = true
abstract_matches ty.Struct ty.Any = true
abstract_matches ty.Array ty.Array = true
abstract_matches ty.Array ty.Eq = true
abstract_matches ty.Array ty.Any = true
abstract_matches ty.None ty.None = true
abstract_matches ty.None ty.Any = true
abstract_matches ty.None ty.Eq = true
abstract_matches ty.None ty.I31 = true
abstract_matches ty.None ty.Struct = true
abstract_matches ty.None ty.Array = true
abstract_matches ty.Func ty.Func = true
abstract_matches ty.NoFunc ty.NoFunc = true
abstract_matches ty.NoFunc ty.Func = true
abstract_matches ty.Extern ty.Extern = true
abstract_matches ty.NoExtern ty.NoExtern = true
abstract_matches ty.NoExtern ty.Extern = true
abstract_matches ty.Exn ty.Exn = true
abstract_matches ty.NoExn ty.NoExn = true
abstract_matches ty.NoExn ty.Exn = true
abstract_matches ty.Cont ty.Cont = true
abstract_matches ty.NoCont ty.NoCont = true
abstract_matches _ _ = false

-- The abstract types that match the defined types of a kind.
abbrev pub is_least : AbstractHeapType → CompositeKind → Bool
is_least ty.None of_struct = true
is_least ty.None of_array = true
is_least ty.NoFunc of_function = true
is_least _ _ = false

abbrev pub is_least_of : AbstractHeapType → Option CompositeKind → Bool
is_least_of t None = false
is_least_of t (Some k) = is_least t k

abbrev pub kind_matches : Option CompositeKind → AbstractHeapType → Bool
kind_matches None t = false
kind_matches (Some k) t = abstract_matches (abstract_of_kind k) t

abbrev pub same_flag : Bool → Bool → Bool
same_flag true true = true
same_flag false false = true
same_flag _ _ = false

-- Decides whether a heap type of a module matches another.
abbrev pub heap_type_matches : TypeOrder → HeapType → HeapType → Bool
heap_type_matches O (heap_type.Abstract s t) (heap_type.Abstract r u) = if same_flag s r then abstract_matches t u else false
heap_type_matches O (heap_type.Abstract false t) (heap_type.Concrete j) = is_least_of t (O.kind j)
heap_type_matches O (heap_type.Concrete i) (heap_type.Abstract false u) = kind_matches (O.kind i) u
heap_type_matches O (heap_type.Concrete i) (heap_type.Concrete j) = O.subtype i j
heap_type_matches O (heap_type.Exact i) (heap_type.Exact j) = nat_eq i j
heap_type_matches O _ _ = false

-- Decides whether a heap type matches another.
abbrev pub heap_matches : TypeOrder → Heap → Heap → Bool
heap_matches O Unknown h = true
heap_matches O (Known h) (Known g) = heap_type_matches O h g
heap_matches O (Known h) Unknown = false

-- Decides whether a value type matches another.
abbrev pub matches : TypeOrder → ValueType → ValueType → Bool
matches O Bottom v = true
matches O I32 I32 = true
matches O I64 I64 = true
matches O F32 F32 = true
matches O F64 F64 = true
matches O V128 V128 = true
matches O (Ref n h) (Ref m g) = if null_matches n m then heap_matches O h g else false
matches O _ _ = false
