use Rattle.wasm_below.specs.TypeEncoding.{EncodesHeapType}
use Rattle.wasm_imm.specs.Immediate.{heap_type, is_heap_type}
use Rattle.wasm_decode_opcodes.proofs.KindLemmas.{of_heap_type}
use Rattle.wasm_decode_opcodes.proofs.SequenceLemmas.{one_failed}
use Rattle.wasm_decode_opcodes.proofs.kinds.HeapTypeImmediates.read.Goals as goal

pub returns-in-Err : goal.returns-in-Err
returns-in-Err c =
    let r = c.args.reader.now in
    one_failed EncodesHeapType is_heap_type heap_type c.args._start c.in-Err.e r c.read.new.reader (of_heap_type r.features) c.requires c.in-Err.ensures
