use Rattle.std.proofs.Common.{refl}
use Rattle.wasm_decode.proofs.after.simd_after_prefix.Goals as goal

pub returns-in-Err : goal.returns-in-Err
returns-in-Err g c k = (refl, c.in-Err.ensures.refuses k)
