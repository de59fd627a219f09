use Rattle.std.proofs.Common.{◌≡◌, List, length}
use Rattle.wasm_below.specs.Source.{rest}
use Rattle.wasm_module.specs.Module.{SectionParts}
use Rattle.wasm_module.specs.Sections.{SectionsOccur, first_with}
use Rattle.wasm_module.proofs.sections.find_section.Given as goal

abbrev pub invariant-sections : goal.invariant-sections
invariant-sections l = (sections : List SectionParts) × SectionsOccur l.initial.reader sections l.reader × (l.found ≡ first_with l.id sections)

abbrev pub decreases-sections : goal.decreases-sections
decreases-sections l = length (rest l.reader)
