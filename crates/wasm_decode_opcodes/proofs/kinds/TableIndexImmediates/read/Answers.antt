use Rattle.wasm_imm.specs.Indices.{EncodesTableIndex}
use Rattle.wasm_imm.specs.Immediate.{table_index_32, is_table_index}
use Rattle.wasm_decode_opcodes.proofs.KindLemmas.{of_table_index}
use Rattle.wasm_decode_opcodes.proofs.SequenceLemmas.{one_failed}
use Rattle.wasm_decode_opcodes.proofs.kinds.TableIndexImmediates.read.Goals as goal

pub returns-in-Err : goal.returns-in-Err
returns-in-Err c =
    let r = c.args.reader.now in
    one_failed (EncodesTableIndex r.features) is_table_index table_index_32 c.args._start c.in-Err.e r c.read_table_index.new.reader (of_table_index r.features) c.requires c.in-Err.ensures
