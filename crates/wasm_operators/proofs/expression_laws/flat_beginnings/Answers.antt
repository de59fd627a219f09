use Rattle.wasm_operators.proofs.FlatLemmas.{flat_is_longest}
use Rattle.wasm_operators.proofs.expression_laws.flat_beginnings.Goals as goal

pub returns : goal.returns
returns c = λ s placed. flat_is_longest s placed
