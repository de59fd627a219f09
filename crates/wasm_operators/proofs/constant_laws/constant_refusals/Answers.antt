use Rattle.wasm_operators.proofs.ConstantDetermined.{constant_determines}
use Rattle.wasm_operators.proofs.constant_laws.constant_refusals.Goals as goal

pub returns : goal.returns
returns c = constant_determines
