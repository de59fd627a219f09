use Rattle.wasm_c_sections.specs.Names.{placed_naming}
use Rattle.wasm_grammars.proofs.Steps.{begins, then, fails_at, fails_in, ends, stays}
use Rattle.wasm_c_sections.proofs.named.WasmNamingRead.read_from.Goals as goal

pub returns-in_err-index : goal.returns-in_err-index
returns-in_err-index c = stays _ c.from_residual.ensures.1 (fails_at (begins placed_naming c.clone-ahead.ensures) c.in_err-index.ensures)

pub returns-in_err-name : goal.returns-in_err-name
returns-in_err-name c =
    let index = then (begins placed_naming c.clone-ahead.ensures) c.in_ok-index.ensures in
    stays _ c.from_residual-in_err-name.ensures.1 (fails_in index c.in_err-name.ensures.1)

pub returns : goal.returns
returns c = ends (then (then (begins placed_naming c.clone-ahead.ensures) c.in_ok-index.ensures) c.in_ok-name.ensures)
