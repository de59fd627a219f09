use Rattle.std.proofs.Common.{◌≡◌, List, None, length}
use Rattle.wasm_below.specs.Source.{rest}
use Rattle.wasm_module.specs.Module.{SectionParts}
use Rattle.wasm_module.specs.Sections.{SectionsOccur, first_with}
use Rattle.wasm_module.proofs.names.name_functions.Given as goal

abbrev pub invariant-sections : goal.invariant-sections
invariant-sections l = (before : List SectionParts) × SectionsOccur l.initial.reader before l.reader × (first_with 1 before ≡ None) ×
    (l.names ≡ l.initial.names)

abbrev pub decreases-sections : goal.decreases-sections
decreases-sections l = length (rest l.reader)
