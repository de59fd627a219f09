use Rattle.std.proofs.Common.{◌≡◌, ◌≤◌, ◌<◌, ◌-◌, ℕ, refl, subst, ap, ◌∙◌, arith}
use Rattle.std.proofs.lemmas.Bool.{le-leb, lt-leb}
use Rattle.wasm_below.specs.Source.{offset_of}
use Rattle.wasm_grammars.specs.Grammar.{HasReadBy}
use Rattle.wasm_grammars.specs.Reading.{Fails}
use Rattle.wasm_grammars.proofs.Steps.{begins, then, placed, passes, stops, fails_in, ends_as, stays, moved_on}
use Rattle.wasm_sections.specs.Delimited.{delimited}
use Rattle.wasm_sections.proofs.Within.{start_within}
use Rattle.wasm_sections.proofs.delimited.read_delimited.Goals as goal

pub returns-in_err-value : goal.returns-in_err-value
returns-in_err-value g c =
    let h = g.T.Read.grammar in
    let mid = c.clone-ahead.result in
    let start = placed (begins (delimited c.args.size (h c.args.reader.now.features)) c.clone-ahead.ensures) in
    stays _ c.from_residual.ensures.1 (fails_in start (subst (λ f. Fails (h f) (offset_of mid) c.in_err-value.field-0.0 mid) start.features c.in_err-value.ensures.1))

pub overflow_sub-read : goal.overflow_sub-read
overflow_sub-read g c =
    let moved = moved_on c.in_ok-value.ensures.2 in
    let at = ap offset_of c.clone-ahead.ensures in
    omega (arith, moved, at)

pub returns-then-read-from : goal.returns-then-read-from
returns-then-read-from g c =
    let h = g.T.Read.grammar in
    let start = placed (begins (delimited c.args.size (h c.args.reader.now.features)) c.clone-ahead.ensures) in
    let value = placed (then start (subst (λ f. HasReadBy (h f) c.in_ok-value.value c.clone-ahead.result c.read_from.new.reader) start.features c.in_ok-value.ensures)) in
    let at = ap offset_of c.clone-ahead.ensures in
    let long : c.args.size < offset_of c.read_from.new.reader - offset_of c.clone-ahead.result = omega (arith, at) in (
      refl,
      stops value (lt-leb _ _ long) (λ e. cc e) (start_within c.clone-ahead.ensures c.is_within.ensures c.in_ok-value.ensures.2) c.new.ensures.message
          (c.new.ensures.offset ∙ c.original_position-start.ensures),
    )

pub returns : goal.returns
returns g c =
    let h = g.T.Read.grammar in
    let start = placed (begins (delimited c.args.size (h c.args.reader.now.features)) c.clone-ahead.ensures) in
    let value = placed (then start (subst (λ f. HasReadBy (h f) c.in_ok-value.value c.clone-ahead.result c.read_from.new.reader) start.features c.in_ok-value.ensures)) in
    let at = ap offset_of c.clone-ahead.ensures in
    let short : offset_of c.read_from.new.reader - offset_of c.clone-ahead.result ≤ c.args.size = omega (arith, at) in
    let same : offset_of c.read_from.new.reader - offset_of c.clone-ahead.result ≡ c.original_position-end.result - c.original_position-start.result = omega (arith, at) in
    ends_as (passes value (le-leb _ _ short)) (ap (λ (k : ℕ). (c.in_ok-value.value, c.args.size - k)) same)
