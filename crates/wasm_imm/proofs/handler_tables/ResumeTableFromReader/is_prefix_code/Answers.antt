use Rattle.wasm_imm.proofs.HandlerTables.{resume_prefix_code}
use Rattle.wasm_imm.proofs.handler_tables.ResumeTableFromReader.is_prefix_code.Goals as goal

pub returns : goal.returns
returns c = λ features. resume_prefix_code
