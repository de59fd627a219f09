use Rattle.std.proofs.Common.{refl}
use Rattle.wasm_operators.proofs.Steps.{stepped_more}
use Rattle.wasm_operators.proofs.body_laws.steps_of_locals.Goals as goal

pub returns-clause-first : goal.returns-clause-first
returns-clause-first c = λ body unread opens. (unread, opens, refl)

pub returns-clause-next : goal.returns-clause-next
returns-clause-next c = stepped_more
