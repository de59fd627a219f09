use Rattle.wasm_grammar.proofs.Runs.{begins_of_run, IsSome_of_begins}
use Rattle.wasm_grammar.proofs.laws.rules_run_beginnings.Goals as goal

pub returns : goal.returns
returns g c = λ roles. (begins_of_run roles, IsSome_of_begins roles)
