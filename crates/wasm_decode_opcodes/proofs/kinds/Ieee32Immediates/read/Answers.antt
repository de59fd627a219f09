use Rattle.std.specs.Int.{w32}
use Rattle.wasm_below.specs.Number.{EncodesFixed}
use Rattle.wasm_imm.specs.Immediate.{float_32, is_float_32}
use Rattle.wasm_decode_opcodes.proofs.KindLemmas.{of_float_32}
use Rattle.wasm_decode_opcodes.proofs.SequenceLemmas.{one_read}
use Rattle.wasm_decode_opcodes.proofs.kinds.Ieee32Immediates.read.Goals as goal

pub returns : goal.returns
returns c =
    let r = c.args.reader.now in
    one_read (EncodesFixed w32) is_float_32 float_32 c.args._start c.read_f32.result r c.read_f32.new.self (of_float_32 r.features) c.requires c.read_f32.ensures
