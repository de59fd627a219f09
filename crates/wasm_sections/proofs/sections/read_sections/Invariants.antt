use Rattle.wasm_sections.proofs.Found.{HasFound}
use Rattle.wasm_sections.proofs.sections.read_sections.Given as goal

abbrev pub invariant-sections : goal.invariant-sections
invariant-sections l = HasFound l.fn.reader l.items l.sections.items
