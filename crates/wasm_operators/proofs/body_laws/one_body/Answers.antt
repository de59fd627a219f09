use Rattle.wasm_operators.proofs.Determined.{one_body_of}
use Rattle.wasm_operators.proofs.body_laws.one_body.Goals as goal

pub returns : goal.returns
returns c = one_body_of
