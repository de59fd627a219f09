use Rattle.std.proofs.Common.{subst}
use Rattle.wasm_below.specs.Refusal.{IsReadFault}
use Rattle.wasm_operators.proofs.Bodies.{no_body, refused_stops}
use Rattle.wasm_operators.proofs.body_laws.refused_locals.Goals as goal

pub returns-clause-none : goal.returns-clause-none
returns-clause-none c = no_body

pub returns-clause-stopped : goal.returns-clause-stopped
returns-clause-stopped c = refused_stops

pub returns-clause-memory : goal.returns-clause-memory
returns-clause-memory c = λ e body refuses is. subst IsReadFault is refuses.refusal.fault
