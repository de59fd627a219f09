use Rattle.std.proofs.Common.{refl}
use Rattle.wasm_sections.proofs.sections.Sections.new.Goals as goal

pub returns-in-Ok-clause-started : goal.returns-in-Ok-clause-started
returns-in-Ok-clause-started c = (refl, c.in-Ok._version, c.in-Ok.ensures)
