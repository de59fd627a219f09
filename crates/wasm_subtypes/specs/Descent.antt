-- Matching of defined types, by the identity and the declared supertype of each.
-- WebAssembly Core Specification 3.0: Validation, Matching, Defined Types.
use Rattle.std.specs.Prelude.{◌≡◌, ℕ, zero, suc, ◌<◌, ◌≤◌, nat_eq, Bool, true, false, if◌then◌else◌, Option, Some, None}
use Rattle.std.specs.Option.{option_map}
use Rattle.wasm_typing.specs.Matching.{CompositeKind}

-- A type matches an equal type, and what its supertype matches. Types with the same identity are
-- equal.
pub data Descends (identity : ℕ → ℕ) (super : ℕ → Option ℕ) : ℕ → ℕ → Type 0 where
  equal : {i j : ℕ} → identity i ≡ identity j → Descends identity super i j
  declared : {i j s : ℕ} → super i ≡ Some s → Descends identity super s j → Descends identity super i j

-- There is such a type, and the test holds of it.
abbrev pub some_passes : (ℕ → Bool) → Option ℕ → Bool
some_passes test None = false
some_passes test (Some i) = test i

-- Decides it for a type with at most `steps` supertypes, each of which is the supertype of the one
-- before.
abbrev pub descends_within : ℕ → (ℕ → ℕ) → (ℕ → Option ℕ) → ℕ → ℕ → Bool
descends_within zero identity super i j = nat_eq (identity i) (identity j)
descends_within (suc steps) identity super i j =
    if nat_eq (identity i) (identity j) then true else some_passes (λ s. descends_within steps identity super s j) (super i)

-- Decides it if supertypes come earlier.
abbrev pub descends : (ℕ → ℕ) → (ℕ → Option ℕ) → ℕ → ℕ → Bool
descends identity super i j = descends_within i identity super i j

-- What the types of a module are to matching: an index without a type has its own identity. Equal
-- types have the same kind and equal supertypes. A supertype comes earlier and has the same kind.
pub record AreDeclared (identity : ℕ → ℕ) (super : ℕ → Option ℕ) (kind : ℕ → Option CompositeKind) : Type 0 where
  pub kinds : (i j : ℕ) → identity i ≡ identity j → kind i ≡ kind j
  pub supers : (i j : ℕ) → identity i ≡ identity j → option_map identity (super i) ≡ option_map identity (super j)
  pub earlier : (i s : ℕ) → super i ≡ Some s → s < i
  pub super_kinds : (i s : ℕ) → super i ≡ Some s → kind i ≡ kind s
  pub once : (i : ℕ) → identity (identity i) ≡ identity i
  pub first : (i : ℕ) → identity i ≤ i
