use Rattle.std.proofs.Common.{length}
use Rattle.wasm_below.specs.Source.{rest}
use Rattle.wasm_operators.specs.Expression.{Placed, operators}
use Rattle.wasm_operators.specs.Reading.{TakesOperators}
use Rattle.wasm_operators.specs.Constant.{HasNoEnd}
use Rattle.wasm_operators.proofs.passing.pass_constant.Given as goal

abbrev pub invariant-loop-is_end : goal.invariant-loop-is_end
invariant-loop-is_end l = (placed : Placed) × TakesOperators l.fn.operators l.operators placed × HasNoEnd (operators placed)

abbrev pub decreases-loop-is_end : goal.decreases-loop-is_end
decreases-loop-is_end l = length (rest l.operators.reader)
