use Rattle.wasm_write_grammars.specs.Writing.{NoReason}
use Rattle.wasm_write_grammars.proofs.Owing.{passed}
use Rattle.wasm_encode_sections.proofs.TableSteps.{zero_written}
use Rattle.wasm_encode_sections.proofs.tables.append_zero.Goals as goal

pub returns : goal.returns
returns c = passed NoReason c.append_byte.result (λ w. zero_written w) c.append_byte.ensures
