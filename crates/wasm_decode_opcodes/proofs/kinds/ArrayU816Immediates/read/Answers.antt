use Rattle.wasm_imm.specs.Vectors.{EncodesSixteen}
use Rattle.wasm_imm.specs.Immediate.{sixteen_lanes, is_sixteen_lanes}
use Rattle.wasm_decode_opcodes.proofs.KindLemmas.{of_lanes}
use Rattle.wasm_decode_opcodes.proofs.SequenceLemmas.{one_failed}
use Rattle.wasm_decode_opcodes.proofs.kinds.ArrayU816Immediates.read.Goals as goal

pub returns-in-Err : goal.returns-in-Err
returns-in-Err c =
    let r = c.args.reader.now in
    one_failed EncodesSixteen is_sixteen_lanes sixteen_lanes c.args._start c.in-Err.e r c.read_lanes.new.reader (of_lanes r.features) c.requires c.in-Err.ensures
