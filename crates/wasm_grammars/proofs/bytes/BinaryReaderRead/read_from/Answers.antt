use Rattle.wasm_grammars.specs.Blocks.{contents, sized_contents}
use Rattle.wasm_grammars.proofs.Steps.{begins, then, read_by_features, fails_by_features, fails_at, ends_in, stays}
use Rattle.wasm_grammars.proofs.bytes.BinaryReaderRead.read_from.Goals as goal

pub returns-in_err-size : goal.returns-in_err-size
returns-in_err-size c = stays _ c.from_residual.ensures.1 (fails_at (begins (sized_contents c.args.reader.now.features) c.clone-ahead.ensures) c.in_err-size.ensures)

pub returns-in_err-contents : goal.returns-in_err-contents
returns-in_err-contents c =
    let size = then (begins (sized_contents c.args.reader.now.features) c.clone-ahead.ensures) c.in_ok-size.ensures in
    let error = fails_by_features (λ features. contents features c.in_ok-size.size) size c.in_err-contents.ensures.1 in
    stays _ c.from_residual-in_err-contents.ensures.1 (ends_in size error)

pub returns : goal.returns
returns c =
    let size = then (begins (sized_contents c.args.reader.now.features) c.clone-ahead.ensures) c.in_ok-size.ensures in
    size.reads _ _ (read_by_features (λ features. contents features c.in_ok-size.size) size _ c.in_ok-contents.ensures)
