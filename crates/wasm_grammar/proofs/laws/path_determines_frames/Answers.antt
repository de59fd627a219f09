use Rattle.wasm_grammar.proofs.Paths.{same_frames}
use Rattle.wasm_grammar.proofs.laws.path_determines_frames.Goals as goal

pub returns : goal.returns
returns g c = λ roles first second p q. same_frames first second roles p q
