use Rattle.wasm_disassembly.proofs.Shown.{writing_stops}
use Rattle.wasm_disassembly.proofs.module.write_heading.Goals as goal

pub returns-clause-err : goal.returns-clause-err
returns-clause-err g c = writing_stops c.write_text.result c.write_text.ensures.err
