use Rattle.std.proofs.Common.{List, length}
use Rattle.wasm_below.specs.Source.{rest}
use Rattle.wasm_module.specs.Module.{SectionParts}
use Rattle.wasm_module.specs.Sections.{SectionsOccur}
use Rattle.wasm_index_names.specs.Sections.{AreGivenBy}
use Rattle.wasm_index_names.proofs.named_sections.give_sections.Given as goal

abbrev pub invariant-sections : goal.invariant-sections
invariant-sections l = (found : List SectionParts) × SectionsOccur l.initial.reader found l.reader × AreGivenBy l.fn.given found l.given

abbrev pub decreases-sections : goal.decreases-sections
decreases-sections l = length (rest l.reader)
