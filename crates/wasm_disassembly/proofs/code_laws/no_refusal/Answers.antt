use Rattle.wasm_disassembly.proofs.Codes.{code_not_refused}
use Rattle.wasm_disassembly.proofs.code_laws.no_refusal.Goals as goal

pub returns : goal.returns
returns c = code_not_refused (c.unsigned_numbers.ensures 32)
