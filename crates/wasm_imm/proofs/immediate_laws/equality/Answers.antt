use Rattle.wasm_imm.proofs.ImmediateEquality.{argument_exact, order_exact, vector_exact}
use Rattle.wasm_imm.proofs.immediate_laws.equality.Goals as goal

pub returns-clause-argument : goal.returns-clause-argument
returns-clause-argument c = argument_exact

pub returns-clause-order : goal.returns-clause-order
returns-clause-order c = order_exact

pub returns-clause-vector : goal.returns-clause-vector
returns-clause-vector c = vector_exact
