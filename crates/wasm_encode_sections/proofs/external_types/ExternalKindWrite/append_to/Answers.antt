use Rattle.wasm_externals.specs.declared.external.ExternalKind.TheVariants as kind
use Rattle.wasm_write_grammars.specs.Writing.{NoReason}
use Rattle.wasm_write_grammars.proofs.Owing.{passed}
use Rattle.wasm_encode_sections.proofs.ExternalSteps.{kind_written}
use Rattle.wasm_encode_sections.proofs.external_types.ExternalKindWrite.append_to.Goals as goal

pub returns-in-Func : goal.returns-in-Func
returns-in-Func c = passed NoReason c.append_byte.result (λ w. kind_written kind.Func c.in-Func.is w) c.append_byte.ensures

pub returns-in-Table : goal.returns-in-Table
returns-in-Table c = passed NoReason c.append_byte-in-Table.result (λ w. kind_written kind.Table c.in-Table.is w) c.append_byte-in-Table.ensures

pub returns-in-Memory : goal.returns-in-Memory
returns-in-Memory c = passed NoReason c.append_byte-in-Memory.result (λ w. kind_written kind.Memory c.in-Memory.is w) c.append_byte-in-Memory.ensures

pub returns-in-Global : goal.returns-in-Global
returns-in-Global c = passed NoReason c.append_byte-in-Global.result (λ w. kind_written kind.Global c.in-Global.is w) c.append_byte-in-Global.ensures

pub returns-in-Tag : goal.returns-in-Tag
returns-in-Tag c = passed NoReason c.append_byte-in-Tag.result (λ w. kind_written kind.Tag c.in-Tag.is w) c.append_byte-in-Tag.ensures
