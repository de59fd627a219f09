use Rattle.wasm_below.proofs.TypeEquality.{heap_exact, ref_exact, value_exact}
use Rattle.wasm_below.proofs.type_laws.equality.Goals as goal

pub returns-clause-heap : goal.returns-clause-heap
returns-clause-heap c = heap_exact

pub returns-clause-reference : goal.returns-clause-reference
returns-clause-reference c = ref_exact

pub returns-clause-value : goal.returns-clause-value
returns-clause-value c = value_exact
