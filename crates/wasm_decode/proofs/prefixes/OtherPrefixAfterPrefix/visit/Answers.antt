use Rattle.std.proofs.Common.{refl}
use Rattle.wasm_decode.proofs.prefixes.OtherPrefixAfterPrefix.visit.Goals as goal

pub returns-in-Err : goal.returns-in-Err
returns-in-Err g c k = (refl, c.in-Err.ensures.refuses k)

pub returns-in-Err-subopcode : goal.returns-in-Err-subopcode
returns-in-Err-subopcode g c k = (refl, c.in-Err-subopcode.ensures.refuses k)

pub returns-in_default : goal.returns-in_default
returns-in_default g c k = (refl, c.unknown_opcode.ensures k)
