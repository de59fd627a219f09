use Rattle.wasm_imm.specs.Vectors.{EncodesVector}
use Rattle.wasm_imm.specs.Immediate.{vector, is_vector}
use Rattle.wasm_decode_opcodes.proofs.KindLemmas.{of_vector}
use Rattle.wasm_decode_opcodes.proofs.SequenceLemmas.{one_failed}
use Rattle.wasm_decode_opcodes.proofs.kinds.V128Immediates.read.Goals as goal

pub returns-in-Err : goal.returns-in-Err
returns-in-Err c =
    let r = c.args.reader.now in
    one_failed EncodesVector is_vector vector c.args._start c.in-Err.e r c.read.new.reader (of_vector r.features) c.requires c.in-Err.ensures
