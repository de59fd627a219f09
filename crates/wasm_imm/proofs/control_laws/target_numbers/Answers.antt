use Rattle.wasm_imm.proofs.BranchTables.{numbers_are}
use Rattle.wasm_imm.proofs.control_laws.target_numbers.Goals as goal

pub returns : goal.returns
returns c = λ count text numbers many. numbers_are text numbers many.1
