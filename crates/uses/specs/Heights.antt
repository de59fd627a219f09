-- Specification: Validation, Instructions; Appendix, Validation Algorithm.
use Rattle.std.specs.Prelude.{◌≡◌, ℕ, List, [], ◌∷◌, None, IsSome}
use Rattle.wasm_operators.specs.instr.Arity.{arity_of}
use Rattle.wasm_operators.specs.instr.declared.operator.Operator.{Operator}
use Rattle.wasm_operators.specs.Expression.{Placed}
use Rattle.uses.specs.declared.heights.Heights.{Heights}
use Rattle.uses.specs.declared.module.Frame.{Frame}
use Rattle.uses.specs.Module.{facts}

abbrev pub HasArity : List (ℕ × ℕ) → List ℕ → Operator → Type 0
HasArity types functions op = (frames : List Frame) × IsSome (arity_of (facts types functions frames) op)

abbrev pub HaveArities : List (ℕ × ℕ) → List ℕ → Placed → Type 0
HaveArities types functions [] = Unit {0}
HaveArities types functions (p ∷ ps) = HasArity types functions p.0 × HaveArities types functions ps

-- The module is unchanged, and no fault is cleared.
pub record KeepsModule (before after : Heights) : Type 0 where
  pub types : after.context.types.now ≡ before.context.types.now
  pub functions : after.context.functions.now ≡ before.context.functions.now
  pub fault : after.fault ≡ None → before.fault ≡ None

-- Without a fault after the visit, there was none before, and the operator has an arity.
pub record StepsHeight (before : Heights) (op : Operator) (after : Heights) : Type 0 where
  pub keeps : KeepsModule before after
  pub arity : after.fault ≡ None → HasArity before.context.types.now before.context.functions.now op
