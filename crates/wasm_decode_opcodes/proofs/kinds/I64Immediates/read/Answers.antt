use Rattle.wasm_below.specs.Number.{EncodesSigned}
use Rattle.wasm_imm.specs.Immediate.{signed_64, is_signed_64}
use Rattle.wasm_decode_opcodes.proofs.KindLemmas.{of_signed_64}
use Rattle.wasm_decode_opcodes.proofs.SequenceLemmas.{one_read}
use Rattle.wasm_decode_opcodes.proofs.kinds.I64Immediates.read.Goals as goal

pub returns : goal.returns
returns c =
    let r = c.args.reader.now in
    one_read (EncodesSigned 64) is_signed_64 signed_64 c.args._start c.read_var_i64.result r c.read_var_i64.new.self (of_signed_64 r.features) c.requires c.read_var_i64.ensures
