use Rattle.wasm_below.proofs.DeterminedTypeRefusals.{heap_determines}
use Rattle.wasm_below.proofs.type_readers.HeapTypeFromReader.determines_refusal.Goals as goal

pub returns : goal.returns
returns c = heap_determines
