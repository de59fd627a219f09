use Rattle.wasm_imm.specs.Casts.{EncodesCast}
use Rattle.wasm_imm.specs.Immediate.{cast, is_cast}
use Rattle.wasm_decode_opcodes.proofs.KindLemmas.{of_cast}
use Rattle.wasm_decode_opcodes.proofs.SequenceLemmas.{one_failed}
use Rattle.wasm_decode_opcodes.proofs.kinds.CastImmediates.read.Goals as goal

pub returns-in-Err : goal.returns-in-Err
returns-in-Err c =
    let r = c.args.reader.now in
    one_failed EncodesCast is_cast cast c.args._start c.in-Err.e r c.read.new.reader (of_cast r.features) c.requires c.in-Err.ensures
