use Rattle.wasm_instr.proofs.OperatorEquality.{operator_exact}
use Rattle.wasm_instr.proofs.laws.equality.Goals as goal

pub returns : goal.returns
returns c = operator_exact
