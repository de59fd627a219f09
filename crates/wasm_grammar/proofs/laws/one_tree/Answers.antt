use Rattle.wasm_grammar.proofs.Unique.{one_tree}
use Rattle.wasm_grammar.proofs.laws.one_tree.Goals as goal

pub returns : goal.returns
returns g c = λ first second same. one_tree first second same
