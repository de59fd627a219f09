use Rattle.wasm_c_sections.specs.Externals.{external_item, placed_import}
use Rattle.wasm_grammars.proofs.Steps.{begins, then, read_by_features, fails_by_features, fails_in, ends, stays}
use Rattle.wasm_c_sections.proofs.named.WasmImportRead.read_from.Goals as goal

pub returns-in_err-module : goal.returns-in_err-module
returns-in_err-module c = stays _ c.from_residual.ensures.1 (fails_in (begins (placed_import c.args.reader.now.features) c.clone-ahead.ensures) c.in_err-module.ensures.1)

pub returns-in_err-name : goal.returns-in_err-name
returns-in_err-name c =
    let from = then (begins (placed_import c.args.reader.now.features) c.clone-ahead.ensures) c.in_ok-module.ensures in
    stays _ c.from_residual-in_err-name.ensures.1 (fails_in from c.in_err-name.ensures.1)

pub returns-in_err-ty : goal.returns-in_err-ty
returns-in_err-ty c =
    let from = then (begins (placed_import c.args.reader.now.features) c.clone-ahead.ensures) c.in_ok-module.ensures in
    let name = then from c.in_ok-name.ensures in
    stays _ c.from_residual-in_err-ty.ensures.1 (fails_in name (fails_by_features external_item name c.in_err-ty.ensures.1))

pub returns : goal.returns
returns c =
    let from = then (begins (placed_import c.args.reader.now.features) c.clone-ahead.ensures) c.in_ok-module.ensures in
    let name = then from c.in_ok-name.ensures in
    ends (then name (read_by_features external_item name _ c.in_ok-ty.ensures))
