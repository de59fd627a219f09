use Rattle.wasm_grammars.proofs.Steps.{begins, then, fails_at, fails_in, read_by_features, fails_by_features, ends, stays}
use Rattle.wasm_names.specs.Names.{unread_names, indirect_naming}
use Rattle.wasm_names.proofs.indirect.IndirectNamingRead.read_from.Goals as goal

pub returns-in_err-index : goal.returns-in_err-index
returns-in_err-index c =
    stays _ c.from_residual.ensures.1 (fails_at (begins (indirect_naming c.args.reader.now.features) c.clone-ahead.ensures) c.in_err-index.ensures)

pub returns-in_err-names : goal.returns-in_err-names
returns-in_err-names c =
    let index = then (begins (indirect_naming c.args.reader.now.features) c.clone-ahead.ensures) c.in_ok-index.ensures in
    stays _ c.from_residual-in_err-names.ensures.1 (fails_in index (fails_by_features unread_names index c.in_err-names.ensures.1))

pub returns : goal.returns
returns c =
    let index = then (begins (indirect_naming c.args.reader.now.features) c.clone-ahead.ensures) c.in_ok-index.ensures in
    ends (then index (read_by_features unread_names index _ c.in_ok-names.ensures))
