use Rattle.wasm_c_sections.specs.Externals.{placed_export}
use Rattle.wasm_grammars.proofs.Steps.{begins, then, fails_at, fails_in, ends_as, stays}
use Rattle.wasm_c_sections.proofs.named.WasmExportRead.read_from.Goals as goal

pub returns-in_err-name : goal.returns-in_err-name
returns-in_err-name c = stays _ c.from_residual.ensures.1 (fails_in (begins placed_export c.clone-ahead.ensures) c.in_err-name.ensures.1)

pub returns-in_err-kind : goal.returns-in_err-kind
returns-in_err-kind c =
    let name = then (begins placed_export c.clone-ahead.ensures) c.in_ok-name.ensures in
    stays _ c.from_residual-in_err-kind.ensures.1 (fails_in name c.in_err-kind.ensures.1)

pub returns-in_err-index : goal.returns-in_err-index
returns-in_err-index c =
    let kind = then (then (begins placed_export c.clone-ahead.ensures) c.in_ok-name.ensures) c.in_ok-kind.ensures in
    stays _ c.from_residual-in_err-index.ensures.1 (fails_at kind c.in_err-index.ensures)

pub returns : goal.returns
returns c =
    let kind = then (then (begins placed_export c.clone-ahead.ensures) c.in_ok-name.ensures) c.in_ok-kind.ensures in
    ends_as (then kind c.in_ok-index.ensures) (cc c.kind_number.ensures)
