use Rattle.std.proofs.Common.{◌≤◌, refl, ◌∙◌, arith}
use Rattle.std.proofs.lemmas.Bool.{le-leb, lt-leb}
use Rattle.wasm_below.proofs.Steps.{unsigned_some}
use Rattle.wasm_grammars.proofs.Steps.{begins, then, passes, stops, inside, read_by_features, fails_by_features, fails_at, fails_in, ends, stays}
use Rattle.wasm_segments.specs.Segments.{data_segment, data_kind}
use Rattle.wasm_segments.proofs.data.DataRead.read_from.Goals as goal

pub returns-in_err-flags : goal.returns-in_err-flags
returns-in_err-flags g c =
    let features = c.args.reader.now.features in
    stays _ c.from_residual.ensures.1 (fails_at (begins (data_segment (g.C.Read.grammar features)) c.clone-ahead.ensures) c.in_err-flags.ensures)

pub returns-then-flags-gt2 : goal.returns-then-flags-gt2
returns-then-flags-gt2 g c =
    let features = c.args.reader.now.features in
    let flags = then (begins (data_segment (g.C.Read.grammar features)) c.clone-ahead.ensures) c.in_ok-flags.ensures in
    let (text, p, t) = c.in_ok-flags.ensures in
    let within = inside _ _ text t (unsigned_some 32 text c.in_ok-flags.flags p) in
    let at = c.new.ensures.offset ∙ c.original_position.ensures in
    (refl, stops flags (lt-leb _ _ c.if-flags-gt2.true) (λ e. absurd (cc e)) (omega (arith, within, flags.later)) c.new.ensures.message at)

pub returns-in_err-kind : goal.returns-in_err-kind
returns-in_err-kind g c =
    let features = c.args.reader.now.features in
    let low : c.in_ok-flags.flags ≤ 2 = omega arith in
    let flags = passes (then (begins (data_segment (g.C.Read.grammar features)) c.clone-ahead.ensures) c.in_ok-flags.ensures) (le-leb _ _ low) in
    let error = fails_by_features (λ f. data_kind (g.C.Read.grammar f) c.in_ok-flags.flags) flags c.in_err-kind.ensures in
    stays _ c.from_residual-in_err-kind.ensures.1 (fails_in flags error)

pub returns-in_err-data : goal.returns-in_err-data
returns-in_err-data g c =
    let features = c.args.reader.now.features in
    let low : c.in_ok-flags.flags ≤ 2 = omega arith in
    let flags = passes (then (begins (data_segment (g.C.Read.grammar features)) c.clone-ahead.ensures) c.in_ok-flags.ensures) (le-leb _ _ low) in
    let kind = then flags (read_by_features (λ f. data_kind (g.C.Read.grammar f) c.in_ok-flags.flags) flags _ c.in_ok-kind.ensures) in
    stays _ c.from_residual-in_err-data.ensures.1 (fails_in kind c.in_err-data.ensures.1)

pub returns : goal.returns
returns g c =
    let features = c.args.reader.now.features in
    let low : c.in_ok-flags.flags ≤ 2 = omega arith in
    let flags = passes (then (begins (data_segment (g.C.Read.grammar features)) c.clone-ahead.ensures) c.in_ok-flags.ensures) (le-leb _ _ low) in
    let kind = then flags (read_by_features (λ f. data_kind (g.C.Read.grammar f) c.in_ok-flags.flags) flags _ c.in_ok-kind.ensures) in
    ends (then kind c.in_ok-data.ensures)
