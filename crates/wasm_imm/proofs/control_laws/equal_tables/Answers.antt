use Rattle.wasm_imm.proofs.BranchTables.{equal_targets}
use Rattle.wasm_imm.proofs.control_laws.equal_tables.Goals as goal

pub returns : goal.returns
returns c = equal_targets
