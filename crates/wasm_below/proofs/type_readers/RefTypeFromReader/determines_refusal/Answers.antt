use Rattle.wasm_below.proofs.DeterminedTypeRefusals.{ref_determines}
use Rattle.wasm_below.proofs.type_readers.RefTypeFromReader.determines_refusal.Goals as goal

pub returns : goal.returns
returns c = ref_determines
