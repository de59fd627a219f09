use Rattle.wasm_operators.proofs.ConstantDetermined.{constant_determines}
use Rattle.wasm_operators.proofs.constant.ConstExprFromReader.determines_refusal.Goals as goal

pub returns : goal.returns
returns c = constant_determines
