use Rattle.wasm_grammar.proofs.Runs.{ends_complete}
use Rattle.wasm_grammar.proofs.laws.ends_complete.Goals as goal

pub returns : goal.returns
returns g c = λ roles frames e. ends_complete roles frames e
