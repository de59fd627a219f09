use Rattle.wasm_externals.specs.Externals.{type_ref, type_of}
use Rattle.wasm_grammars.proofs.Steps.{begins, then, read_by_features, fails_by_features, fails_in, ends_in, stays}
use Rattle.wasm_externals.proofs.external.TypeRefRead.read_from.Goals as goal

pub returns-in_err-kind : goal.returns-in_err-kind
returns-in_err-kind c = stays _ c.from_residual.ensures.1 (fails_in (begins (type_ref c.args.reader.now.features) c.clone-ahead.ensures) c.in_err-kind.ensures.1)

pub returns-in_err-ty : goal.returns-in_err-ty
returns-in_err-ty c =
    let kind = then (begins (type_ref c.args.reader.now.features) c.clone-ahead.ensures) c.in_ok-kind.ensures in
    stays _ c.from_residual-in_err-ty.ensures.1 (ends_in kind (fails_by_features (type_of c.in_ok-kind.kind) kind c.in_err-ty.ensures))

pub returns : goal.returns
returns c =
    let kind = then (begins (type_ref c.args.reader.now.features) c.clone-ahead.ensures) c.in_ok-kind.ensures in
    kind.reads _ _ (read_by_features (type_of c.in_ok-kind.kind) kind _ c.in_ok-ty.ensures)
