use Rattle.wasm_write_grammars.proofs.Owing.{passed}
use Rattle.wasm_encode_sections.specs.ElementReasons.{TypeReason}
use Rattle.wasm_encode_sections.proofs.ElementSteps.{type_written}
use Rattle.wasm_encode_sections.proofs.elements.append_type.Goals as goal

pub returns : goal.returns
returns c = passed (TypeReason c.args.flags) c.append_to.result (λ w. type_written c.args.flags c.args.ty c.if-flags-eq0.false w) c.append_to.ensures
