use Rattle.wasm_decode_opcodes.specs.OperatorFaults.{OperatorFault, ScalarOperatorFault}
use Rattle.wasm_decode.proofs.DeterminedOperatorRefusals.{operator_determines, scalar_determines, in_determines}
use Rattle.wasm_decode.proofs.laws.operator_refusals.Goals as goal

pub returns-clause-any : goal.returns-clause-any
returns-clause-any c = in_determines (OperatorFault c.args.features) (operator_determines c.args.features) c.args.frame

pub returns-clause-scalar : goal.returns-clause-scalar
returns-clause-scalar c = in_determines (ScalarOperatorFault c.args.features) (scalar_determines c.args.features) c.args.frame
