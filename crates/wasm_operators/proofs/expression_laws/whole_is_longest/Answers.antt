use Rattle.wasm_operators.specs.Expression.{IsAny}
use Rattle.wasm_operators.proofs.Runs.{encoded_longest}
use Rattle.wasm_operators.proofs.expression_laws.whole_is_longest.Goals as goal

pub returns : goal.returns
returns c = λ before s whole encodes h. encoded_longest IsAny before s whole encodes h tt
