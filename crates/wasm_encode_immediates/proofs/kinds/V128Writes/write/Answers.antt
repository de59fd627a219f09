use Rattle.std.proofs.Common.{rules}
use Rattle.wasm_imm.specs.Vectors.{EncodesVector}
use Rattle.wasm_imm.specs.Immediate.{vector}
use Rattle.wasm_encode_immediates.proofs.Sequences.{one_appended}
use Rattle.wasm_encode_immediates.proofs.ShortTexts.{vector_written}
use Rattle.wasm_encode_immediates.proofs.kinds.V128Writes.write.Goals as goal

pub returns-clause-written : goal.returns-clause-written
returns-clause-written c = (one_appended EncodesVector c.args._features c.args.self (vector c.args.self) _ _ (λ t p. p) (λ t p. p) (vector_written c.args.self _ _ (search rules) c.write_bytes.ensures.bytes), c.write_bytes.ensures.capacity)
