use Rattle.wasm_below.proofs.PrefixCode.{signed_prefix_code}
use Rattle.wasm_below.proofs.byte_laws.signed_numbers.Goals as goal

pub returns : goal.returns
returns c = λ width a b x y m n p q e. signed_prefix_code a b width x y m n p q e
