use Rattle.std.specs.Prelude.{◌≡◌, ◌++◌}
use Rattle.wasm_operators.specs.below.Source.{source_of}
use Rattle.wasm_operators.specs.Expression.{Placed, operators, AreEncoded}
use Rattle.wasm_operators.specs.MainTheorem.{ClosesFrom}
use Rattle.wasm_operators.specs.Reading.{State}

-- All bytes that were left encode the added operators, which close every frame.
pub record AddsRest (old : State) (before after : Placed) : Type 0 where
  pub placed : Placed
  pub added : after ≡ before ++ placed
  pub closes : ClosesFrom old.frames (source_of old.reader) placed
  pub encoded : AreEncoded old.reader.features (operators placed)
