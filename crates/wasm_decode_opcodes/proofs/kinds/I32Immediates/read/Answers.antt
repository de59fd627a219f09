use Rattle.wasm_below.specs.Number.{EncodesSigned}
use Rattle.wasm_imm.specs.Immediate.{signed_32, is_signed_32}
use Rattle.wasm_decode_opcodes.proofs.KindLemmas.{of_signed_32}
use Rattle.wasm_decode_opcodes.proofs.SequenceLemmas.{one_read}
use Rattle.wasm_decode_opcodes.proofs.kinds.I32Immediates.read.Goals as goal

pub returns : goal.returns
returns c =
    let r = c.args.reader.now in
    one_read (EncodesSigned 32) is_signed_32 signed_32 c.args._start c.read_var_i32.result r c.read_var_i32.new.self (of_signed_32 r.features) c.requires c.read_var_i32.ensures
