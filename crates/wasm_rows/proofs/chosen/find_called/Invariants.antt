use Rattle.std.proofs.Common.{List, length}
use Rattle.wasm_below.specs.Source.{rest}
use Rattle.wasm_module.specs.Module.{SectionParts}
use Rattle.wasm_module.specs.Sections.{SectionsOccur}
use Rattle.wasm_rows.specs.Contents.{NoneChosen}
use Rattle.wasm_rows.proofs.chosen.find_called.Given as goal

abbrev pub invariant-sections : goal.invariant-sections
invariant-sections l = (before : List SectionParts) × SectionsOccur l.initial.reader before l.reader × NoneChosen l.name before

abbrev pub decreases-sections : goal.decreases-sections
decreases-sections l = length (rest l.reader)
