use Rattle.wasm_grammar.proofs.Runs.{tree_of, walk_runs_out}
use Rattle.wasm_grammar.proofs.laws.rules_accept_walks.Goals as goal

pub returns : goal.returns
returns g c = λ roles. (λ e. tree_of roles e, λ (tree, e). walk_runs_out roles tree e)
