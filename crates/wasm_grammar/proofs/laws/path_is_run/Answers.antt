use Rattle.wasm_grammar.proofs.Paths.{run_path}
use Rattle.wasm_grammar.proofs.Runs.{path_of}
use Rattle.wasm_grammar.proofs.laws.path_is_run.Goals as goal

pub returns : goal.returns
returns g c = λ roles frames. (run_path frames roles, path_of roles frames)
