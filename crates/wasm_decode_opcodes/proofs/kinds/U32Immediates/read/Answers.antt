use Rattle.wasm_below.specs.Number.{EncodesUnsigned}
use Rattle.wasm_imm.specs.Immediate.{unsigned_32, is_unsigned_32}
use Rattle.wasm_decode_opcodes.proofs.KindLemmas.{of_unsigned}
use Rattle.wasm_decode_opcodes.proofs.SequenceLemmas.{one_read}
use Rattle.wasm_decode_opcodes.proofs.kinds.U32Immediates.read.Goals as goal

pub returns : goal.returns
returns c =
    let r = c.args.reader.now in
    one_read (EncodesUnsigned 32) is_unsigned_32 unsigned_32 c.args._start c.read_var_u32.result r c.read_var_u32.new.self (of_unsigned r.features) c.requires c.read_var_u32.ensures
