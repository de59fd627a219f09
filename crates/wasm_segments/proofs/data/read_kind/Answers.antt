use Rattle.std.proofs.Common.{refl}
use Rattle.std.proofs.lemmas.Bool.{eq-eqb, ne_eqb}
use Rattle.wasm_grammars.proofs.Steps.{begins, then, yes, no, read_by_features, fails_by_features, fails_in, ends, failed}
use Rattle.wasm_segments.specs.Segments.{data_kind}
use Rattle.wasm_segments.proofs.data.read_kind.Goals as goal

pub returns-then-flags-eq1 : goal.returns-then-flags-eq1
returns-then-flags-eq1 g c = ends (yes (begins (data_kind (g.C.Read.grammar c.args.reader.now.features) c.args.flags) refl) (eq-eqb _ _ c.if-flags-eq1.true))

pub returns-in_err-memory_index : goal.returns-in_err-memory_index
returns-in_err-memory_index g c =
    let active = no (begins (data_kind (g.C.Read.grammar c.args.reader.now.features) c.args.flags) refl) (ne_eqb _ _ c.if-flags-eq1.false) in
    failed _ _ c.from_residual.ensures.1 (fails_in active c.in_err-memory_index.ensures.1)

pub returns-in_err-offset_expr : goal.returns-in_err-offset_expr
returns-in_err-offset_expr g c =
    let active = no (begins (data_kind (g.C.Read.grammar c.args.reader.now.features) c.args.flags) refl) (ne_eqb _ _ c.if-flags-eq1.false) in
    let index = then active c.in_ok-memory_index.ensures in
    failed _ _ c.from_residual-in_err-offset_expr.ensures.1 (fails_in index (fails_by_features (g.C.Read.grammar) index c.in_err-offset_expr.ensures.1))

pub returns : goal.returns
returns g c =
    let active = no (begins (data_kind (g.C.Read.grammar c.args.reader.now.features) c.args.flags) refl) (ne_eqb _ _ c.if-flags-eq1.false) in
    let index = then active c.in_ok-memory_index.ensures in
    ends (then index (read_by_features (g.C.Read.grammar) index _ c.in_ok-offset_expr.ensures))
