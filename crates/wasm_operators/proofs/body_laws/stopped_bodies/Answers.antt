use Rattle.wasm_operators.proofs.StoppedBodies.{stopped_none, stopped_same}
use Rattle.wasm_operators.proofs.body_laws.stopped_bodies.Goals as goal

pub returns-clause-none : goal.returns-clause-none
returns-clause-none c = stopped_none

pub returns-clause-same : goal.returns-clause-same
returns-clause-same c = stopped_same
