use Rattle.wasm_externals.specs.Globals.{global_type}
use Rattle.wasm_grammars.proofs.Steps.{begins, then, fails_at, fails_in, ends, stays}
use Rattle.wasm_externals.proofs.global_type.GlobalTypeRead.read_from.Goals as goal

pub returns-in_err-content_type : goal.returns-in_err-content_type
returns-in_err-content_type c = stays _ c.from_residual.ensures.1 (fails_at (begins global_type c.clone-ahead.ensures) c.in_err-content_type.ensures)

pub returns-in_err-flags : goal.returns-in_err-flags
returns-in_err-flags c =
    let content = then (begins global_type c.clone-ahead.ensures) c.in_ok-content_type.ensures in
    stays _ c.from_residual-in_err-flags.ensures.1 (fails_in content c.in_err-flags.ensures.1)

pub returns : goal.returns
returns c = ends (then (then (begins global_type c.clone-ahead.ensures) c.in_ok-content_type.ensures) c.in_ok-flags.ensures)
