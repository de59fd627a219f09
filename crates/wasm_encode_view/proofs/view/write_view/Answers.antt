use Rattle.wasm_encode_view.proofs.Operators.{view_appended}
use Rattle.wasm_encode_view.proofs.view.write_view.Goals as goal

pub returns : goal.returns
returns c = λ f op at text same none p. view_appended f op at text _ c.args.view.now c.write_bytes.ensures same none p
