use Rattle.wasm_imm.proofs.HandlerTables.{select_prefix_code}
use Rattle.wasm_imm.proofs.control_laws.select_types.Goals as goal

pub returns : goal.returns
returns c = select_prefix_code
