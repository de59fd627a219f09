use Rattle.std.proofs.Common.{List, length}
use Rattle.wasm_below.specs.Source.{rest}
use Rattle.wasm_module.specs.Module.{SectionParts}
use Rattle.wasm_module.specs.FunctionNames.{LastNames}
use Rattle.wasm_module.specs.Sections.{SectionsOccur}
use Rattle.wasm_module.proofs.sections.find_names.Given as goal

abbrev pub invariant-customs : goal.invariant-customs
invariant-customs l = (sections : List SectionParts) × SectionsOccur l.initial.reader sections l.reader × LastNames sections l.found

abbrev pub decreases-customs : goal.decreases-customs
decreases-customs l = length (rest l.reader)
