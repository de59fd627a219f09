use Rattle.wasm_view.proofs.Named.{name_agrees}
use Rattle.wasm_view.proofs.laws.names.Goals as goal

pub returns : goal.returns
returns c = name_agrees
