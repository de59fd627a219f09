use Rattle.wasm_disassembly.proofs.Shown.{writing_stops}
use Rattle.wasm_disassembly.proofs.headers.write_section.Goals as goal

pub returns-clause-halts : goal.returns-clause-halts
returns-clause-halts g c = writing_stops c.write_text.result c.write_text.ensures.err
