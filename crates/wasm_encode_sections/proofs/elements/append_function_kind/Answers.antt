use Rattle.wasm_write_grammars.specs.Writing.{NoReason}
use Rattle.wasm_write_grammars.proofs.Owing.{passed}
use Rattle.wasm_encode_sections.proofs.ElementSteps.{kind_written}
use Rattle.wasm_encode_sections.proofs.elements.append_function_kind.Goals as goal

pub returns : goal.returns
returns c = passed NoReason c.append_byte.result (λ w. kind_written c.args.flags c.if-flags-eq0.false w) c.append_byte.ensures
