use Rattle.wasm_below.proofs.DeterminedRefusals.{u32_determines}
use Rattle.wasm_below.proofs.from_reader.U32FromReader.determines_refusal.Goals as goal

pub returns : goal.returns
returns c = u32_determines
