use Rattle.wasm_imm.proofs.Returned.{first_returned, never_refused, none_returned}
use Rattle.wasm_imm.proofs.control_laws.returned_targets.Goals as goal

pub returns-clause-next : goal.returns-clause-next
returns-clause-next c = first_returned

pub returns-clause-ok : goal.returns-clause-ok
returns-clause-ok c = never_refused

pub returns-clause-end : goal.returns-clause-end
returns-clause-end c = none_returned
