use Rattle.wasm_imm.specs.Orderings.{EncodesOrderingByte}
use Rattle.wasm_imm.specs.Immediate.{order, is_order}
use Rattle.wasm_decode_opcodes.proofs.KindLemmas.{of_order}
use Rattle.wasm_decode_opcodes.proofs.SequenceLemmas.{one_failed}
use Rattle.wasm_decode_opcodes.proofs.kinds.OrderingImmediates.read.Goals as goal

pub returns-in-Err : goal.returns-in-Err
returns-in-Err c =
    let r = c.args.reader.now in
    one_failed EncodesOrderingByte is_order order c.args._start c.in-Err.e r c.read.new.reader (of_order r.features) c.requires c.in-Err.ensures
