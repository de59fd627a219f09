use Rattle.std.proofs.Common.{◌≡◌, List, false}
use Rattle.wasm_names.specs.declared.name.Name.{Name}
use Rattle.wasm_index_names.specs.Sections.{AreNamed}
use Rattle.wasm_index_names.proofs.subsections.give_names.Given as goal

abbrev pub invariant-subsections : goal.invariant-subsections
invariant-subsections l = (found : List Name) × AreNamed l.fn.contents found l.names.reader l.fn.given l.given × (l.names.refused ≡ false)
