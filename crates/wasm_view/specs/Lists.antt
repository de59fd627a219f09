-- Specification: Binary Format, Control and Parametric Instructions; proposal stack switching.
use Rattle.std.specs.Prelude.{◌≡◌, ℕ, List, [], ◌∷◌, ◌++◌, length, map, drop, Option, Some, None}
use Rattle.wasm_instr.specs.declared.operator.Operator.{Operator}
use Rattle.wasm_instr.specs.declared.operator.Operator.TheVariants as operator
use Rattle.wasm_imm.specs.BranchTables.{numbers_of}
use Rattle.wasm_view.specs.Members.{type_of, catch_of, handle_of}
use Rattle.wasm_view.specs.declared.members.WasmType.{WasmType}
use Rattle.wasm_view.specs.declared.members.WasmHandler.{WasmHandler}

-- The second list, overwritten by the first from its start.
abbrev pub written : {X : Type 0} → List X → List X → List X
written items [] = []
written [] (old ∷ olds) = old ∷ olds
written (item ∷ items) (old ∷ olds) = item ∷ written items olds

-- The targets of a `br_table`, without the default target.
abbrev pub targets_of : Operator → Option (List ℕ)
targets_of (operator.BrTable t) = Some (numbers_of t.targets)
targets_of _ = None

-- The types of a `select`.
abbrev pub types_of : Operator → Option (List WasmType)
types_of (operator.TypedSelect ty) = Some (type_of ty ∷ [])
types_of (operator.TypedSelectMulti tys) = Some (map type_of tys)
types_of _ = None

-- The clauses of a `try_table`.
abbrev pub catches_of : Operator → Option (List WasmHandler)
catches_of (operator.TryTable t) = Some (map catch_of t.catches)
catches_of _ = None

-- The clauses of a resume operator.
abbrev pub handles_of : Operator → Option (List WasmHandler)
handles_of (operator.Resume ty t) = Some (map handle_of t.handlers)
handles_of (operator.ResumeThrow ty tag t) = Some (map handle_of t.handlers)
handles_of (operator.ResumeThrowRef ty t) = Some (map handle_of t.handlers)
handles_of _ = None

-- The array starts with the members from index `from` on, as far as they fit; the rest is
-- unchanged. `count` counts all members.
abbrev pub PlacesMembers : {X : Type 0} → List X → ℕ → List X → ℕ → List X → Type 0
PlacesMembers members from old count new = (count ≡ length members) × (new ≡ written (drop from members) old)

-- As `PlacesMembers`, for an operator's list; without one, `None`, and nothing changes.
abbrev pub ReturnsMembers : {X : Type 0} → Option (List X) → ℕ → List X → Option ℕ → List X → Type 0
ReturnsMembers None from old result new = (result ≡ None) × (new ≡ old)
ReturnsMembers (Some members) from old result new = (count : ℕ) × (result ≡ Some count) × PlacesMembers members from old count new

-- One more member is written at `index - from`, if that exists.
abbrev pub PlacesOne : {X : Type 0} → X → ℕ → ℕ → List X → List X → Type 0
PlacesOne {X} member index from old new =
    (seen base : List X) → index ≡ length seen → old ≡ written (drop from seen) base → new ≡ written (drop from (seen ++ member ∷ [])) base
