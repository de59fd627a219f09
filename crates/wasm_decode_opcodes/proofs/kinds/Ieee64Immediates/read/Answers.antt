use Rattle.std.specs.Int.{w64}
use Rattle.wasm_below.specs.Number.{EncodesFixed}
use Rattle.wasm_imm.specs.Immediate.{float_64, is_float_64}
use Rattle.wasm_decode_opcodes.proofs.KindLemmas.{of_float_64}
use Rattle.wasm_decode_opcodes.proofs.SequenceLemmas.{one_read}
use Rattle.wasm_decode_opcodes.proofs.kinds.Ieee64Immediates.read.Goals as goal

pub returns : goal.returns
returns c =
    let r = c.args.reader.now in
    one_read (EncodesFixed w64) is_float_64 float_64 c.args._start c.read_f64.result r c.read_f64.new.self (of_float_64 r.features) c.requires c.read_f64.ensures
