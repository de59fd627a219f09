use Rattle.std.proofs.Common.{◌≡◌, List, false}
use Rattle.wasm_names.specs.declared.name.Name.{Name}
use Rattle.wasm_details.specs.Names.{AreNamed}
use Rattle.wasm_details.proofs.name_section.write_names.Given as goal

abbrev pub invariant-subsections : goal.invariant-subsections
invariant-subsections g l =
    (found : List Name) × AreNamed l.fn.place l.fn.contents found l.names.reader (g.W.Write.contents l.fn.writer) (g.W.Write.contents l.writer) ×
    (l.names.refused ≡ false)
