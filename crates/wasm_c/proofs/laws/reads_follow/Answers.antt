use Rattle.wasm_c.proofs.Whole.{one_read, reads_join}
use Rattle.wasm_c.proofs.laws.reads_follow.Goals as goal

pub returns-clause-next : goal.returns-clause-next
returns-clause-next c = one_read

pub returns-clause-joined : goal.returns-clause-joined
returns-clause-joined c = reads_join
