use Rattle.wasm_imm.proofs.DeterminedControlRefusals.{resume_determines}
use Rattle.wasm_imm.proofs.handler_tables.ResumeTableFromReader.determines_refusal.Goals as goal

pub returns : goal.returns
returns c = resume_determines
