use Rattle.wasm_imm.proofs.BlockTypes.{block_prefix_code}
use Rattle.wasm_imm.proofs.control_laws.block_types.Goals as goal

pub returns : goal.returns
returns c = block_prefix_code
