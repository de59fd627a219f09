use Rattle.wasm_grammars.proofs.Steps.{begins, then, read_by_features, fails_by_features, fails_in, ends, stays}
use Rattle.wasm_segments.specs.Globals.{global}
use Rattle.wasm_segments.proofs.global.GlobalRead.read_from.Goals as goal

pub returns-in_err-ty : goal.returns-in_err-ty
returns-in_err-ty g c =
    let features = c.args.reader.now.features in
    stays _ c.from_residual.ensures.1 (fails_in (begins (global features (g.C.Read.grammar features)) c.clone-ahead.ensures) c.in_err-ty.ensures.1)

pub returns-in_err-init_expr : goal.returns-in_err-init_expr
returns-in_err-init_expr g c =
    let features = c.args.reader.now.features in
    let ty = then (begins (global features (g.C.Read.grammar features)) c.clone-ahead.ensures) c.in_ok-ty.ensures in
    stays _ c.from_residual-in_err-init_expr.ensures.1 (fails_in ty (fails_by_features (g.C.Read.grammar) ty c.in_err-init_expr.ensures.1))

pub returns : goal.returns
returns g c =
    let features = c.args.reader.now.features in
    let ty = then (begins (global features (g.C.Read.grammar features)) c.clone-ahead.ensures) c.in_ok-ty.ensures in
    ends (then ty (read_by_features (g.C.Read.grammar) ty _ c.in_ok-init_expr.ensures))
