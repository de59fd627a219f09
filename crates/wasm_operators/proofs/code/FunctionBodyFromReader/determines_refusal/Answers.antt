use Rattle.wasm_below.proofs.DeterminedRefusals.{reader_determines}
use Rattle.wasm_operators.proofs.code.FunctionBodyFromReader.determines_refusal.Goals as goal

pub returns : goal.returns
returns c = reader_determines
