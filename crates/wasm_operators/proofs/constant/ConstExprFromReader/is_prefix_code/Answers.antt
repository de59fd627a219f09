use Rattle.wasm_operators.proofs.ConstantDetermined.{constant_prefix_code}
use Rattle.wasm_operators.proofs.constant.ConstExprFromReader.is_prefix_code.Goals as goal

pub returns : goal.returns
returns c = λ features. constant_prefix_code features
