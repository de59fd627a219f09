use Rattle.wasm_grammars.proofs.Steps.{begins, then, stays_after}
use Rattle.wasm_types.specs.Types.{inner_type, inner_after}
use Rattle.wasm_types.proofs.composites.CompositeInnerTypeRead.read_from.Goals as goal

pub returns-in_err-inner : goal.returns-in_err-inner
returns-in_err-inner c =
    stays_after inner_after _ c.clone-ahead.ensures c.in_ok-byte.ensures c.original_position.ensures _ c.from_residual-in_err-inner.ensures.1 c.in_err-inner.ensures

pub returns : goal.returns
returns c = (then (begins inner_type c.clone-ahead.ensures) c.in_ok-byte.ensures).reads _ _ c.in_ok-inner.ensures
