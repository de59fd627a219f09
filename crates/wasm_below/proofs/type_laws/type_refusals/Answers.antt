use Rattle.wasm_below.proofs.DeterminedTypeRefusals.{heap_determines, ref_determines, value_determines}
use Rattle.wasm_below.proofs.type_laws.type_refusals.Goals as goal

pub returns-clause-heap : goal.returns-clause-heap
returns-clause-heap c = heap_determines

pub returns-clause-reference : goal.returns-clause-reference
returns-clause-reference c = ref_determines

pub returns-clause-value : goal.returns-clause-value
returns-clause-value c = value_determines
