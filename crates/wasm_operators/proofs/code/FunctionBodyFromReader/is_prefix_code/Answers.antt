use Rattle.wasm_operators.proofs.Determined.{reader_prefix_code}
use Rattle.wasm_operators.proofs.code.FunctionBodyFromReader.is_prefix_code.Goals as goal

pub returns : goal.returns
returns c = reader_prefix_code
