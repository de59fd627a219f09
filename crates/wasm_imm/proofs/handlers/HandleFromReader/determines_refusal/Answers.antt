use Rattle.wasm_imm.proofs.DeterminedControlRefusals.{handle_determines}
use Rattle.wasm_imm.proofs.handlers.HandleFromReader.determines_refusal.Goals as goal

pub returns : goal.returns
returns c = handle_determines
