use Rattle.wasm_operators.proofs.Bodies.{past_body, past_expression}
use Rattle.wasm_operators.proofs.body_laws.past_locals.Goals as goal

pub returns-clause-body : goal.returns-clause-body
returns-clause-body c = past_body

pub returns-clause-expression : goal.returns-clause-expression
returns-clause-expression c = past_expression
