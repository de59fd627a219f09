use Rattle.std.proofs.Common.{List, length}
use Rattle.wasm_operators.specs.below.Source.{rest}
use Rattle.wasm_module.specs.Module.{SectionParts}
use Rattle.wasm_module.specs.Sections.{SectionsOccur}
use Rattle.wasm_disassembly.proofs.cut.find_cut.Given as goal

abbrev pub invariant-sections : goal.invariant-sections
invariant-sections l = (sections : List SectionParts) × SectionsOccur l.initial.reader sections l.reader

abbrev pub decreases-sections : goal.decreases-sections
decreases-sections l = length (rest l.reader)
