use Rattle.wasm_imm.proofs.DeterminedControlRefusals.{catch_determines}
use Rattle.wasm_imm.proofs.handlers.CatchFromReader.determines_refusal.Goals as goal

pub returns : goal.returns
returns c = catch_determines
