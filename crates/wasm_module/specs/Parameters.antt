-- Specification: Binary Format, Types, Recursive Types; Modules, Type Section.
use Rattle.std.specs.Prelude.{◌≡◌, ◌⊎◌, ℕ, List, [], ◌∷◌, length, map, Option, Some, None}
use Rattle.std.specs.List.{All, flat_map}
use Rattle.wasm_below.specs.Number.{EncodesUnsigned}
use Rattle.wasm_below.specs.Source.{Reader, rest, BeginsWith, HasRead}
use Rattle.wasm_module.specs.Types.{EncodesSubType, EncodesRecTypeLength}
use Rattle.wasm_module.specs.declared.composite.CompositeType.{CompositeType}
use Rattle.wasm_module.specs.declared.composite.CompositeType.TheVariants as composite
use Rattle.wasm_module.specs.Items.{ItemsOccur}

abbrev pub parameter_count : CompositeType → ℕ
parameter_count (composite.Function parameters results) = parameters
parameter_count _ = 0

abbrev pub IsKnownType : CompositeType → Type 0
IsKnownType (composite.Other kind) = ⊥
IsKnownType _ = Unit {0}

abbrev pub AreKnownTypes : List CompositeType → Type 0
AreKnownTypes types = All IsKnownType types

-- The number of sub types of a recursive type: one if the next byte starts no list.
abbrev pub Announces : ℕ → Reader → Reader → Type 0
Announces n r first = (BeginsWith 0x4e (rest r) × HasRead EncodesRecTypeLength n r first) ⊎ ((¬ BeginsWith 0x4e (rest r)) × (n ≡ 1) × (first ≡ r))

-- A recursive type with these sub types.
abbrev pub RecTypeOccurs : Reader → List CompositeType → Reader → Type 0
RecTypeOccurs r types end = (first : Reader) × Announces (length types) r first × ItemsOccur EncodesSubType first types end

abbrev pub RecTypesOccur : Reader → List (List CompositeType) → Reader → Type 0
RecTypesOccur r [] end = end ≡ r
RecTypesOccur r (g ∷ gs) end = (mid : Reader) × RecTypeOccurs r g mid × RecTypesOccur mid gs end

-- The contents of a section begin with the number of these recursive types, and the types.
pub record AreTypes (contents : Reader) (rec_types : List (List CompositeType)) : Type 0 where
  pub first : Reader
  pub count : HasRead (EncodesUnsigned 32) (length rec_types) contents first
  pub end : Reader
  pub occur : RecTypesOccur first rec_types end

abbrev pub parameters_in : List (List CompositeType) → List ℕ
parameters_in = flat_map (λ types. map parameter_count types)

abbrev pub CountsParameters : Option Reader → List ℕ → Type 0
CountsParameters None counts = counts ≡ []
CountsParameters (Some contents) counts = (rec_types : List (List CompositeType)) × AreTypes contents rec_types × All AreKnownTypes rec_types × (counts ≡ parameters_in rec_types)
