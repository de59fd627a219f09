use Rattle.wasm_imm.specs.Indices.{EncodesMemoryIndex}
use Rattle.wasm_imm.specs.Immediate.{memory_index, is_memory_index}
use Rattle.wasm_decode_opcodes.proofs.KindLemmas.{of_memory_index}
use Rattle.wasm_decode_opcodes.proofs.SequenceLemmas.{one_failed}
use Rattle.wasm_decode_opcodes.proofs.kinds.MemoryIndexImmediates.read.Goals as goal

pub returns-in-Err : goal.returns-in-Err
returns-in-Err c =
    let r = c.args.reader.now in
    one_failed (EncodesMemoryIndex r.features) is_memory_index memory_index c.args._start c.in-Err.e r c.read_memory_index.new.reader (of_memory_index r.features) c.requires c.in-Err.ensures
