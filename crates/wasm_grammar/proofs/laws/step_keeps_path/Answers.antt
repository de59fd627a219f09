use Rattle.wasm_grammar.proofs.Steps.{path_step}
use Rattle.wasm_grammar.proofs.laws.step_keeps_path.Goals as goal

pub returns : goal.returns
returns g c = λ roles frames role next path e. path_step frames roles role next path e
