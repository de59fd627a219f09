use Rattle.wasm_imm.proofs.HandlerTables.{try_prefix_code}
use Rattle.wasm_imm.proofs.handler_tables.TryTableFromReader.is_prefix_code.Goals as goal

pub returns : goal.returns
returns c = λ features. try_prefix_code
