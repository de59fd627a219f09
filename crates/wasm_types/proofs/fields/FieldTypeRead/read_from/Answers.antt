use Rattle.wasm_grammars.proofs.Steps.{begins, then, fails_in, ends, stays}
use Rattle.wasm_types.specs.Types.{field_type}
use Rattle.wasm_types.proofs.fields.FieldTypeRead.read_from.Goals as goal

pub returns-in_err-element_type : goal.returns-in_err-element_type
returns-in_err-element_type c = stays _ c.from_residual.ensures.1 (fails_in (begins field_type c.clone-ahead.ensures) c.in_err-element_type.ensures.1)

pub returns-in_err-mutable : goal.returns-in_err-mutable
returns-in_err-mutable c =
    let element_type = then (begins field_type c.clone-ahead.ensures) c.in_ok-element_type.ensures in
    stays _ c.from_residual-in_err-mutable.ensures.1 (fails_in element_type c.in_err-mutable.ensures.1)

pub returns : goal.returns
returns c = ends (then (then (begins field_type c.clone-ahead.ensures) c.in_ok-element_type.ensures) c.in_ok-mutable.ensures)
