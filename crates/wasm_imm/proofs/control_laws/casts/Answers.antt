use Rattle.wasm_imm.proofs.Casts.{cast_prefix_code}
use Rattle.wasm_imm.proofs.control_laws.casts.Goals as goal

pub returns : goal.returns
returns c = cast_prefix_code
