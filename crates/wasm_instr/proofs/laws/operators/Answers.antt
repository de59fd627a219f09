use Rattle.wasm_instr.proofs.OperatorPrefixCode.{operator_prefix_code}
use Rattle.wasm_instr.proofs.laws.operators.Goals as goal

pub returns : goal.returns
returns c = operator_prefix_code c.args.features
