use Rattle.wasm_below.proofs.PrefixCode.{unsigned_prefix_code}
use Rattle.wasm_below.proofs.from_reader.U32FromReader.is_prefix_code.Goals as goal

pub returns : goal.returns
returns c = λ features a b x y m n p q e. unsigned_prefix_code a b 32 x y m n p q e
