use Rattle.wasm_imm.proofs.BranchTables.{table_prefix_code}
use Rattle.wasm_imm.proofs.control_laws.branch_tables.Goals as goal

pub returns : goal.returns
returns c = table_prefix_code
