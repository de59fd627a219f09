-- The types of a module, with their groups and identities.
-- WebAssembly Core Specification 3.0: Validation, Types, Recursive Types; Validation, Conventions,
-- Types (rolling); Matching, Defined Types.
use Rattle.std.specs.Prelude.{◌≡◌, ◌≢◌, ℕ, suc, ◌+◌, ◌-◌, ◌<◌, ◌≤◌, false, List, [], ◌∷◌, ◌++◌, length, Option, Some, None, ◌⊎◌}
use Rattle.std.specs.Option.{option_map, option_and_then}
use Rattle.wasm_types.specs.declared.composites.CompositeInnerType.{CompositeInnerType}
use Rattle.wasm_types.specs.declared.composites.CompositeInnerType.TheVariants as inner
use Rattle.wasm_types.specs.declared.recursive.SubType.{SubType}
use Rattle.wasm_typing.specs.Matching.{CompositeKind, of_function, of_struct, of_array, TypeOrder}
use Rattle.std.specs.List.{slice_get}
use Rattle.wasm_subtypes.specs.Descent.{descends, AreDeclared}
use Rattle.wasm_subtypes.specs.Alike.{Alike}
use Rattle.wasm_subtypes.specs.declared.defined.Defined.{Defined}

abbrev pub identity_of : ℕ → Option Defined → ℕ
identity_of i None = i
identity_of i (Some d) = d.identity

-- The index of the first type that equals the type at an index, in the place of the type.
abbrev pub identity : List Defined → ℕ → ℕ
identity types i = identity_of i (slice_get types i)

-- The index of the declared supertype of the type at an index.
abbrev pub supertype : List Defined → ℕ → Option ℕ
supertype types i = option_and_then (λ (d : Defined). d.ty.supertype_idx) (slice_get types i)

-- The kind of a composite type. The type of a continuation has none.
abbrev pub kind_of_inner : CompositeInnerType → Option CompositeKind
kind_of_inner (inner.Func f) = Some of_function
kind_of_inner (inner.Struct s) = Some of_struct
kind_of_inner (inner.Array a) = Some of_array
kind_of_inner (inner.Cont c) = None

abbrev pub kind_of : SubType → Option CompositeKind
kind_of ty = kind_of_inner ty.composite_type.inner

-- The kind of the type at an index.
abbrev pub kind : List Defined → ℕ → Option CompositeKind
kind types i = option_and_then (λ (d : Defined). kind_of d.ty) (slice_get types i)

-- What the types say to matching.
abbrev pub order_of : List Defined → TypeOrder
order_of types = record { subtype = descends (identity types) (supertype types); kind = kind types }

-- Matching of the types is a preorder that keeps kinds.
abbrev pub AreOrdered : List Defined → Type 0
AreOrdered types = AreDeclared (identity types) (supertype types) (kind types)

-- An index `x` in the group that starts at `start` and an index `y` in the group after all types
-- mean the same: the same place in both groups, or equal types before both.
abbrev pub SameUse : List Defined → ℕ → ℕ → ℕ → Type 0
SameUse types start x y =
    ((y < length types) × (x < start) × (identity types x ≡ identity types y)) ⊎
    ((length types ≤ y) × (start ≤ x) × (x - start ≡ y - length types))

-- The type at `i`, in the group that starts at `start`, equals no type before it, and is the same as
-- the type `ty` in the same place of the group after all types.
abbrev pub IsSameMember : List Defined → ℕ → ℕ → SubType → Option Defined → Type 0
IsSameMember types start i ty None = ⊥
IsSameMember types start i ty (Some d) = (d.first ≡ start) × (d.identity ≡ i) × Alike (SameUse types start) d.ty ty

-- No type of the group that starts at `start`.
abbrev pub IsOutside : ℕ → Option Defined → Type 0
IsOutside start None = Unit {0}
IsOutside start (Some d) = d.first ≢ start

-- The group that starts at `start` is equal to a group after all types, and equals no group before
-- it.
pub record IsSameGroup (types : List Defined) (start : ℕ) (group : List SubType) : Type 0 where
  pub members : (r : ℕ) (ty : SubType) → slice_get group r ≡ Some ty → IsSameMember types start (start + r) ty (slice_get types (start + r))
  pub ends : IsOutside start (slice_get types (start + length group))

-- The first equal group starts at `start`; without one, the group itself, after all types.
pub record IsFirstEqual (types : List Defined) (group : List SubType) (start : ℕ) : Type 0 where
  pub within : start ≤ length types
  pub found : start < length types → IsSameGroup types start group
  pub before : (t : ℕ) → t < start → IsSameGroup types t group → ⊥

-- A group in its place. The first type has the identity `i`.
abbrev pub placed : ℕ → ℕ → List SubType → List Defined
placed first i [] = []
placed first i (ty ∷ group) = record { ty = ty; first = first; identity = i } ∷ placed first (suc i) group

-- A type after these may have the identity `i`: its own index, or the index of a type with the same
-- kind and an equal supertype that equals no type before it.
pub record MayIdentify (types : List Defined) (i : ℕ) (ty : SubType) : Type 0 where
  pub within : i ≤ length types
  pub itself : i < length types → identity types i ≡ i
  pub same_kind : i < length types → kind types i ≡ kind_of ty
  pub same_super : i < length types → option_map (identity types) (supertype types i) ≡ option_map (identity types) ty.supertype_idx

-- A supertype is not final and has the same kind.
abbrev pub MayExtend : SubType → Option Defined → Type 0
MayExtend ty None = ⊥
MayExtend ty (Some d) = (d.ty.is_final ≡ false) × (kind_of d.ty ≡ kind_of ty)

-- The supertype of a type after these is one of them that it may extend.
abbrev pub Extends : List Defined → SubType → Option ℕ → Type 0
Extends types ty None = Unit {0}
Extends types ty (Some s) = MayExtend ty (slice_get types s)

-- The same of each type of a group, in its place after these types. The first type has the identity `i`.
abbrev pub AllExtend : List Defined → ℕ → ℕ → List SubType → Type 0
AllExtend types first i [] = Unit {0}
AllExtend types first i (ty ∷ group) =
    Extends types ty ty.supertype_idx × AllExtend (types ++ record { ty = ty; first = first; identity = i } ∷ []) first (suc i) group

-- The types after a group is added.
pub record Added (old : List Defined) (group : List SubType) (new : List Defined) : Type 0 where
  pub start : ℕ
  pub is_first : IsFirstEqual old group start
  pub fits : AllExtend old (length old) start group
  pub all : new ≡ old ++ placed (length old) start group
