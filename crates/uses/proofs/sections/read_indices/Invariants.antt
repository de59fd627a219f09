use Rattle.wasm_operators.specs.below.Number.{EncodesUnsigned}
use Rattle.uses.proofs.Items.{HasFound}
use Rattle.uses.proofs.sections.read_indices.Given as goal

abbrev pub invariant-items : goal.invariant-items
invariant-items l = HasFound (EncodesUnsigned 32) l.fn.reader l.items l.indices.items
