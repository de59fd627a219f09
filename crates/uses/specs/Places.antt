use Rattle.std.specs.Prelude.{◌≡◌, ℕ, ◌∷◌, ◌++◌, length}
use Rattle.wasm_operators.specs.below.declared.features.WasmFeatures.{WasmFeatures}
use Rattle.wasm_operators.specs.instr.declared.operator.Operator.{Operator}
use Rattle.wasm_operators.specs.Expression.{Placed, EndsAt}

-- The operator at this index has the bytes from offset `start` up to `end`, exclusive.
pub record IsRangeOf (features : WasmFeatures) (list : Placed) (index start end : ℕ) : Type 0 where
  pub before : Placed
  pub op : Operator
  pub after : Placed
  pub parts : list ≡ before ++ (op, start) ∷ after
  pub place : length before ≡ index
  pub ends : EndsAt features (op, start) end
