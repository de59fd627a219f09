use Rattle.std.proofs.Common.{sym, subst}
use Rattle.wasm_details.specs.Names.{ListsName}
use Rattle.wasm_details.specs.Namings.{module_line}
use Rattle.wasm_details.specs.Writing.{WritesLine}
use Rattle.wasm_details.proofs.name_section.write_name.Goals as goal

pub returns-in-Module : goal.returns-in-Module
returns-in-Module g c =
    let old = g.W.Write.contents c.args.writer.now in
    let new = g.W.Write.contents c.write_module_name.new.writer in
    subst (λ n. ListsName n c.args.place c.write_module_name.result old new) (sym c.in-Module.is)
    (subst (λ n. WritesLine (module_line n) c.args.place c.write_module_name.result old new) c.as_str.ensures c.write_module_name.ensures)
