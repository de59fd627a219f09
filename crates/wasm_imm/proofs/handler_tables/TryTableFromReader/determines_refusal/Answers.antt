use Rattle.wasm_imm.proofs.DeterminedControlRefusals.{try_determines}
use Rattle.wasm_imm.proofs.handler_tables.TryTableFromReader.determines_refusal.Goals as goal

pub returns : goal.returns
returns c = try_determines
