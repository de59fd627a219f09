use Rattle.std.proofs.Common.{refl, ◌∙◌}
use Rattle.std.proofs.lemmas.Bool.{ne_eqb, eq-eqb}
use Rattle.wasm_grammars.proofs.Steps.{begins, then, passes, stops, fails_at, ends, stays}
use Rattle.wasm_sections.specs.Preamble.{version}
use Rattle.wasm_sections.proofs.Within.{start_within}
use Rattle.wasm_sections.proofs.preamble.read_version.Goals as goal

pub returns-in_err-version : goal.returns-in_err-version
returns-in_err-version c = stays _ c.from_residual.ensures.1 (fails_at (begins version c.clone-ahead.ensures) c.in_err-version.ensures)

pub returns-then-version-ne-MODULE : goal.returns-then-version-ne-MODULE
returns-then-version-ne-MODULE c =
    let number = then (begins version c.clone-ahead.ensures) c.in_ok-version.ensures in (
      refl,
      stops number (ne_eqb _ _ c.if-version-ne-MODULE.true) (λ e. cc e) (start_within c.clone-ahead.ensures c.is_within.ensures c.in_ok-version.ensures.2)
          c.new.ensures.message (c.new.ensures.offset ∙ c.original_position.ensures),
    )

pub returns : goal.returns
returns c = ends (passes (then (begins version c.clone-ahead.ensures) c.in_ok-version.ensures) (eq-eqb _ _ c.if-version-ne-MODULE.false))
