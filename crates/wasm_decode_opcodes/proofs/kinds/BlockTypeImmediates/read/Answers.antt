use Rattle.wasm_imm.specs.BlockTypes.{EncodesBlockType}
use Rattle.wasm_imm.specs.Immediate.{block_type, is_block_type}
use Rattle.wasm_decode_opcodes.proofs.KindLemmas.{of_block_type}
use Rattle.wasm_decode_opcodes.proofs.SequenceLemmas.{one_read}
use Rattle.wasm_decode_opcodes.proofs.kinds.BlockTypeImmediates.read.Goals as goal

pub returns : goal.returns
returns c =
    let r = c.args.reader.now in
    one_read EncodesBlockType is_block_type block_type c.args._start c.read.result r c.read.new.reader (of_block_type r.features) c.requires c.read.ensures
