use Rattle.wasm_escapes.proofs.Escaped.{escaped_shown}
use Rattle.wasm_escapes.proofs.laws.shown.Goals as goal

pub returns : goal.returns
returns c = escaped_shown
