use Rattle.wasm_operators.specs.below.Source.{reader_of}
use Rattle.uses.proofs.After.{HasFound}
use Rattle.uses.proofs.again.operators_again.Given as goal

abbrev pub invariant-tries : goal.invariant-tries
invariant-tries l = HasFound (reader_of l.fn.features 0 l.fn.bytes) l.reader l.found.items
