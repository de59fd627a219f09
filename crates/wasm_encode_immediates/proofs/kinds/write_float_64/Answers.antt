use Rattle.std.proofs.Common.{arith}
use Rattle.std.specs.Int.{w64}
use Rattle.wasm_encode_immediates.proofs.ShortTexts.{fixed_written}
use Rattle.wasm_encode_immediates.proofs.kinds.write_float_64.Goals as goal

pub returns-clause-written : goal.returns-clause-written
returns-clause-written c = fixed_written w64 c.args.bits _ _ _ (let r = c.ranges.bits.fits in omega (arith, r)) c.to_le_bytes-bytes.ensures c.write_bytes.ensures.bytes
