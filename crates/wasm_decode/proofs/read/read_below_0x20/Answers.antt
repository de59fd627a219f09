use Rattle.std.proofs.Common.{arith}
use Rattle.wasm_decode.proofs.DecodingLemmas.{one_byte_code}
use Rattle.wasm_decode.proofs.read.read_below_0x20.Goals as goal

pub below_0x20_by-requires-clause-apart : goal.below_0x20_by-requires-clause-apart
below_0x20_by-requires-clause-apart c =
    one_byte_code c.args.code (grind (arith, c.requires.low)) (λ same. grind (arith, same, c.in_default)) (λ from to. grind (arith, from, c.requires.low))
