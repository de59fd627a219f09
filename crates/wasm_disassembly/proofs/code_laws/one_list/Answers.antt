use Rattle.wasm_disassembly.proofs.Codes.{one_code}
use Rattle.wasm_disassembly.proofs.code_laws.one_list.Goals as goal

pub returns : goal.returns
returns c = one_code (c.unsigned_numbers.ensures 32)
