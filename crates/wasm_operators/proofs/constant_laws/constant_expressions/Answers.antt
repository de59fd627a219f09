use Rattle.wasm_operators.proofs.ConstantDetermined.{constant_prefix_code}
use Rattle.wasm_operators.proofs.constant_laws.constant_expressions.Goals as goal

pub returns : goal.returns
returns c = constant_prefix_code c.args.features
