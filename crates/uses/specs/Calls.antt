-- Specification: Structure, Control Instructions.
use Rattle.std.specs.Prelude.{◌≡◌, ℕ, List, [], ◌∷◌, ◌++◌, flat_map, Bool, false}
use Rattle.wasm_operators.specs.instr.declared.operator.Operator.{Operator}
use Rattle.wasm_operators.specs.instr.declared.operator.Operator.TheVariants as operator
use Rattle.wasm_operators.specs.Expression.{Placed}

abbrev pub called : Operator → List ℕ
called (operator.Call i) = i ∷ []
called (operator.ReturnCall i) = i ∷ []
called _ = []

abbrev pub calls_of : Placed → List ℕ
calls_of placed = flat_map (λ p. called p.0) placed

pub record Found : Type 0 where
  pub calls : List ℕ
  pub refused : Bool

-- A visit adds the function that the operator calls, unless an allocation fails or has failed.
abbrev pub CallsVisit : Found → Operator → Found → Type 0
CallsVisit before op after = after.refused ≡ false → (before.refused ≡ false) × (after.calls ≡ before.calls ++ called op)
