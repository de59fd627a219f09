use Rattle.wasm_imm.proofs.Sixteen.{bytes_restored}
use Rattle.wasm_imm.proofs.constant_laws.vector_restored.Goals as goal

pub returns : goal.returns
returns c = λ bytes l all. bytes_restored bytes l all
