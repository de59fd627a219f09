use Rattle.wasm_decode.proofs.read.read_simd.Goals as goal

pub returns-in-Err : goal.returns-in-Err
returns-in-Err c k = c.in-Err.ensures.refuses k
