use Rattle.wasm_disassembly.proofs.Halts.{writing_halts}
use Rattle.wasm_disassembly.proofs.declarations.write_declaration.Goals as goal

pub returns-clause-halts : goal.returns-clause-halts
returns-clause-halts g c = writing_halts c.write_text.result c.write_text.ensures.err
