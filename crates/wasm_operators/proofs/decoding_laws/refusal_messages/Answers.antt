use Rattle.wasm_operators.proofs.Messages.{operator_read_fault, scalar_read_fault}
use Rattle.wasm_operators.proofs.decoding_laws.refusal_messages.Goals as goal

pub returns-clause-any : goal.returns-clause-any
returns-clause-any c = operator_read_fault c.args.features c.args.frame

pub returns-clause-scalar : goal.returns-clause-scalar
returns-clause-scalar c = scalar_read_fault c.args.features c.args.frame
