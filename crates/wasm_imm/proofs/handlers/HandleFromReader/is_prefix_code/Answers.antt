use Rattle.wasm_imm.proofs.HandlerLemmas.{handle_prefix_code}
use Rattle.wasm_imm.proofs.handlers.HandleFromReader.is_prefix_code.Goals as goal

pub returns : goal.returns
returns c = λ features. handle_prefix_code
