use Rattle.std.proofs.Common.{[]}
use Rattle.wasm_operators.specs.Expression.{IsAny}
use Rattle.wasm_operators.proofs.LayoutLemmas.{one_longest}
use Rattle.wasm_operators.proofs.expression_laws.one_longest_beginning.Goals as goal

pub returns : goal.returns
returns c = λ s first second p q. one_longest IsAny [] s first second p q
