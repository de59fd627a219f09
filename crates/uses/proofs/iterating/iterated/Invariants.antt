use Rattle.wasm_operators.specs.below.Source.{reader_of}
use Rattle.uses.proofs.Steps.{HasGiven}
use Rattle.uses.proofs.iterating.iterated.Given as goal

abbrev pub invariant-operators : goal.invariant-operators
invariant-operators l = HasGiven (reader_of l.fn.features 0 l.fn.bytes) l.items l.found.items
