use Rattle.wasm_grammars.proofs.Steps.{begins, then, read_by_features, fails_by_features, fails_in, ends, stays}
use Rattle.wasm_segments.specs.Elements.{element, element_kind, element_items}
use Rattle.wasm_segments.proofs.element.ElementRead.read_from.Goals as goal

pub returns-in_err-flags : goal.returns-in_err-flags
returns-in_err-flags g c =
    let features = c.args.reader.now.features in
    stays _ c.from_residual.ensures.1 (fails_in (begins (element features (g.C.Read.grammar features)) c.clone-ahead.ensures) c.in_err-flags.ensures.1)

pub returns-in_err-kind : goal.returns-in_err-kind
returns-in_err-kind g c =
    let features = c.args.reader.now.features in
    let flags = then (begins (element features (g.C.Read.grammar features)) c.clone-ahead.ensures) c.in_ok-flags.ensures in
    let error = fails_by_features (λ f. element_kind (g.C.Read.grammar f) c.in_ok-flags.flags) flags c.in_err-kind.ensures in
    stays _ c.from_residual-in_err-kind.ensures.1 (fails_in flags error)

pub returns-in_err-items : goal.returns-in_err-items
returns-in_err-items g c =
    let features = c.args.reader.now.features in
    let flags = then (begins (element features (g.C.Read.grammar features)) c.clone-ahead.ensures) c.in_ok-flags.ensures in
    let kind = then flags (read_by_features (λ f. element_kind (g.C.Read.grammar f) c.in_ok-flags.flags) flags _ c.in_ok-kind.ensures) in
    let error = fails_by_features (λ f. element_items f (g.C.Read.grammar f) c.in_ok-flags.flags) kind c.in_err-items.ensures in
    stays _ c.from_residual-in_err-items.ensures.1 (fails_in kind error)

pub returns : goal.returns
returns g c =
    let features = c.args.reader.now.features in
    let flags = then (begins (element features (g.C.Read.grammar features)) c.clone-ahead.ensures) c.in_ok-flags.ensures in
    let kind = then flags (read_by_features (λ f. element_kind (g.C.Read.grammar f) c.in_ok-flags.flags) flags _ c.in_ok-kind.ensures) in
    ends (then kind (read_by_features (λ f. element_items f (g.C.Read.grammar f) c.in_ok-flags.flags) kind _ c.in_ok-items.ensures))
