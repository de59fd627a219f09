use Rattle.wasm_below.specs.Source.{IsByte}
use Rattle.wasm_imm.specs.Immediate.{one_lane, is_one_lane}
use Rattle.wasm_decode_opcodes.proofs.KindLemmas.{of_lane}
use Rattle.wasm_decode_opcodes.proofs.SequenceLemmas.{one_failed}
use Rattle.wasm_decode_opcodes.proofs.kinds.U8Immediates.read.Goals as goal

pub returns-in-Err : goal.returns-in-Err
returns-in-Err c =
    let r = c.args.reader.now in
    one_failed IsByte is_one_lane one_lane c.args._start c.in-Err.e r c.read_lane.new.reader (of_lane r.features) c.requires c.in-Err.ensures
