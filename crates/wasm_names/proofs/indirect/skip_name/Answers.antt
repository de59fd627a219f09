use Rattle.wasm_grammars.proofs.BlockSteps.{block_read, block_missing}
use Rattle.wasm_grammars.proofs.Steps.{begins, then, fails_at, fails_in, ends, stays}
use Rattle.wasm_names.specs.Names.{skipped_name}
use Rattle.wasm_names.proofs.indirect.skip_name.Goals as goal

pub returns-in_err-_index : goal.returns-in_err-_index
returns-in_err-_index c = stays _ c.from_residual.ensures.1 (fails_at (begins skipped_name c.clone-ahead.ensures) c.in_err-_index.ensures)

pub returns-in_err-size : goal.returns-in_err-size
returns-in_err-size c =
    let index = then (begins skipped_name c.clone-ahead.ensures) c.in_ok-_index.ensures in
    stays _ c.from_residual-in_err-size.ensures.1 (fails_in index c.in_err-size.ensures.1)

pub returns-in_err-_text : goal.returns-in_err-_text
returns-in_err-_text c =
    let size = then (then (begins skipped_name c.clone-ahead.ensures) c.in_ok-_index.ensures) c.in_ok-size.ensures in
    stays _ c.from_residual-in_err-_text.ensures.1 (block_missing size c.is_within.ensures c.in_err-_text.ensures)

pub returns : goal.returns
returns c =
    let size = then (then (begins skipped_name c.clone-ahead.ensures) c.in_ok-_index.ensures) c.in_ok-size.ensures in
    ends (block_read size c.in_ok-_text._text c.in_ok-_text.ensures)
