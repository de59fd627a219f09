use Rattle.wasm_write_grammars.specs.Writing.{NoReason}
use Rattle.wasm_write_grammars.proofs.Owing.{passed}
use Rattle.wasm_encode_sections.proofs.DataSteps.{no_index, index_written}
use Rattle.wasm_encode_sections.proofs.data.append_memory_index.Goals as goal

pub returns-then-index-eq0 : goal.returns-then-index-eq0
returns-then-index-eq0 c = no_index c.args.index c.if-index-eq0.true c.args.out.now.items

pub returns : goal.returns
returns c = passed NoReason c.append_u32.result (λ w. index_written c.args.index c.if-index-eq0.false w) c.append_u32.ensures
