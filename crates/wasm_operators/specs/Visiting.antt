-- Specification: Binary Format, Vector Instructions.
use Rattle.std.specs.Prelude.{◌≡◌, Bool, true, false, if◌then◌else◌, List, [], ◌∷◌}
use Rattle.wasm_instr.specs.declared.operator.Operator.{Operator}
use Rattle.wasm_instr.specs.declared.operator.Operator.TheVariants as operator
use Rattle.wasm_operators.specs.Expression.{Placed}

-- One visit for each operator, in order, with its result.
abbrev pub VisitRun : {V A : Type 0} → (V → Operator → A → V → Type 0) → V → Placed → List A → V → Type 0
VisitRun visits before [] outcomes after = (outcomes ≡ []) × (after ≡ before)
VisitRun {V} {A} visits before (p ∷ ps) outcomes after =
    (first : A) × (others : List A) × (between : V) × (outcomes ≡ first ∷ others) × visits before p.0 first between × VisitRun visits between ps others after

-- The visitor's relation along the list.
abbrev pub Visited : {V A : Type 0} → (V → Operator → A → V → Type 0) → V → V → Placed → Type 0
Visited {V} {A} visits before after placed = (outcomes : List A) × VisitRun visits before placed outcomes after

abbrev pub is_simd : Operator → Bool
is_simd (operator.Simd _) = true
is_simd _ = false

-- The longest prefix without SIMD operators.
abbrev pub scalar_beginning : Placed → Placed
scalar_beginning [] = []
scalar_beginning (p ∷ ps) = if is_simd p.0 then [] else (p ∷ scalar_beginning ps)

-- The list has no SIMD operator.
abbrev pub IsScalar : Placed → Type 0
IsScalar placed = scalar_beginning placed ≡ placed

-- As `Visited`, for a list without SIMD operators.
abbrev pub VisitedScalar : {V A : Type 0} → (V → Operator → A → V → Type 0) → V → V → Placed → Type 0
VisitedScalar visits before after placed = Visited visits before after placed × IsScalar placed
