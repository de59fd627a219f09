use Rattle.wasm_imm.proofs.HandlerLemmas.{catch_prefix_code}
use Rattle.wasm_imm.proofs.handlers.CatchFromReader.is_prefix_code.Goals as goal

pub returns : goal.returns
returns c = λ features. catch_prefix_code
