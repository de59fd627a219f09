use Rattle.wasm_grammars.proofs.Steps.{begins, then, fails_in, ends, stays}
use Rattle.wasm_types.specs.Types.{func_type}
use Rattle.wasm_types.proofs.functions.FuncTypeRead.read_from.Goals as goal

pub returns-in_err-params : goal.returns-in_err-params
returns-in_err-params c = stays _ c.from_residual.ensures.1 (fails_in (begins func_type c.clone-ahead.ensures) c.in_err-params.ensures.1)

pub returns-in_err-results : goal.returns-in_err-results
returns-in_err-results c =
    let params = then (begins func_type c.clone-ahead.ensures) c.in_ok-params.ensures in
    stays _ c.from_residual-in_err-results.ensures.1 (fails_in params c.in_err-results.ensures.1)

pub returns : goal.returns
returns c = ends (then (then (begins func_type c.clone-ahead.ensures) c.in_ok-params.ensures) c.in_ok-results.ensures)
