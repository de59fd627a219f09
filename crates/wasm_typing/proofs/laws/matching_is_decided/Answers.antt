use Rattle.wasm_typing.proofs.Orders.{heap_sound, heap_complete, matches_test, test_matches}
use Rattle.wasm_typing.proofs.laws.matching_is_decided.Goals as goal

pub returns-clause-heap : goal.returns-clause-heap
returns-clause-heap c = λ O ok h g. (heap_sound O ok h g, heap_complete O ok)

pub returns-clause-value : goal.returns-clause-value
returns-clause-value c = λ O ok v w. (matches_test O ok v w, test_matches O ok)
