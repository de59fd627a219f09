use Rattle.wasm_module.proofs.Following.{after_none, after_next}
use Rattle.wasm_module.proofs.place_laws.bodies_follow.Goals as goal

pub returns-clause-first : goal.returns-clause-first
returns-clause-first c = after_none

pub returns-clause-next : goal.returns-clause-next
returns-clause-next c = after_next c.sections.ensures
