use Rattle.std.proofs.Common.{subst}
use Rattle.wasm_c.specs.Texts.{ReturnsText}
use Rattle.wasm_c.proofs.Reported.{text_again}
use Rattle.wasm_c.proofs.wasm_refusal_text.Goals as goal

pub returns-clause-reported : goal.returns-clause-reported
returns-clause-reported c = λ e is.
    subst (λ text. ReturnsText text c.args.text.now c.write_text.result c.write_text.new.text) (text_again e c.args.refusal.now is) c.write_text.ensures
