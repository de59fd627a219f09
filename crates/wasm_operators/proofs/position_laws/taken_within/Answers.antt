use Rattle.wasm_operators.proofs.Offsets.{took_within}
use Rattle.wasm_operators.proofs.position_laws.taken_within.Goals as goal

pub returns : goal.returns
returns c = took_within
