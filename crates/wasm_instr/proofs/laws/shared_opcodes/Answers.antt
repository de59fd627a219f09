use Rattle.wasm_instr.proofs.SharedOpcodes.{shared}
use Rattle.wasm_instr.proofs.laws.shared_opcodes.Goals as goal

pub returns : goal.returns
returns c = shared
