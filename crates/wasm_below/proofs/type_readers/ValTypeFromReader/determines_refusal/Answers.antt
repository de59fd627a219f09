use Rattle.wasm_below.proofs.DeterminedTypeRefusals.{value_determines}
use Rattle.wasm_below.proofs.type_readers.ValTypeFromReader.determines_refusal.Goals as goal

pub returns : goal.returns
returns c = value_determines
