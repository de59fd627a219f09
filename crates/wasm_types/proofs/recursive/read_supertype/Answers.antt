use Rattle.std.proofs.Common.{◌≤◌, refl, ◌∙◌, arith}
use Rattle.std.proofs.lemmas.Bool.{eq-eqb, ne_eqb, le-leb, lt-leb}
use Rattle.wasm_grammars.proofs.Steps.{begins, then, passes, stops, yes, no, fails_at, fails_in, ends, stays}
use Rattle.wasm_types.specs.Types.{supertype, within_limit}
use Rattle.wasm_types.proofs.recursive.read_supertype.Goals as goal

pub returns-in_err-count : goal.returns-in_err-count
returns-in_err-count c = stays _ c.from_residual.ensures.1 (fails_at (begins supertype c.clone-ahead.ensures) c.in_err-count.ensures)

pub returns-then-count-eq0 : goal.returns-then-count-eq0
returns-then-count-eq0 c =
    let count = then (begins supertype c.clone-ahead.ensures) c.in_ok-count.ensures in
    ends (yes count (eq-eqb _ _ c.if-count-eq0.true))

pub returns-in_err-index : goal.returns-in_err-index
returns-in_err-index c =
    let some = no (then (begins supertype c.clone-ahead.ensures) c.in_ok-count.ensures) (ne_eqb _ _ c.if-count-eq0.false) in
    stays _ c.from_residual-in_err-index.ensures.1 (fails_at some c.in_err-index.ensures)

pub returns-then-index-gt-MAX_TYPE_INDEX : goal.returns-then-index-gt-MAX_TYPE_INDEX
returns-then-index-gt-MAX_TYPE_INDEX c =
    let some = no (then (begins supertype c.clone-ahead.ensures) c.in_ok-count.ensures) (ne_eqb _ _ c.if-count-eq0.false) in
    let at = c.new.ensures.offset ∙ c.original_position.ensures in (
      refl,
      fails_in (then some c.in_ok-index.ensures)
          (stops (begins (within_limit c.in_ok-index.index) refl) (lt-leb _ _ c.if-index-gt-MAX_TYPE_INDEX.true) (λ e. absurd (cc e)) c.is_within.ensures c.new.ensures.message at),
    )

pub returns : goal.returns
returns c =
    let some = no (then (begins supertype c.clone-ahead.ensures) c.in_ok-count.ensures) (ne_eqb _ _ c.if-count-eq0.false) in
    let low : c.in_ok-index.index ≤ 1048575 = omega arith in
    ends (then (then some c.in_ok-index.ensures) (ends (passes (begins (within_limit c.in_ok-index.index) refl) (le-leb _ _ low))))
