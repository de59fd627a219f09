use Rattle.wasm_write_grammars.proofs.ReadAgain.{read_again}
use Rattle.wasm_write_grammars.proofs.again.written_is_read.Goals as goal

pub returns : goal.returns
returns g c = λ features value before written w result old new after e r. read_again (g.T.Read.grammar features) value before written w result old new after e r
