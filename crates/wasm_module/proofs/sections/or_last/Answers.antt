use Rattle.wasm_module.proofs.NamedFunctions.{last_stays}
use Rattle.wasm_module.proofs.sections.or_last.Goals as goal

pub returns-in-None : goal.returns-in-None
returns-in-None c sections last = last_stays c.args.found sections c.args.section.now last c.in-None.ensures
