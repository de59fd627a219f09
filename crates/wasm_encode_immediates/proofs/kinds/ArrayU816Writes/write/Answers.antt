use Rattle.std.proofs.Common.{rules}
use Rattle.wasm_imm.specs.Vectors.{EncodesSixteen}
use Rattle.wasm_imm.specs.Immediate.{sixteen_lanes}
use Rattle.wasm_encode_immediates.proofs.Sequences.{one_appended}
use Rattle.wasm_encode_immediates.proofs.ShortTexts.{sixteen_written}
use Rattle.wasm_encode_immediates.proofs.kinds.ArrayU816Writes.write.Goals as goal

pub returns-clause-written : goal.returns-clause-written
returns-clause-written c = (one_appended EncodesSixteen c.args._features c.args.self (sixteen_lanes c.args.self) _ _ (λ t p. p) (λ t p. p) (sixteen_written c.args.self _ _ (search rules) c.write_bytes.ensures.bytes), c.write_bytes.ensures.capacity)
