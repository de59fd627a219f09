use Rattle.std.proofs.Common.{refl, ◌∙◌}
use Rattle.std.proofs.lemmas.Bool.{ne_eqb, eq-eqb}
use Rattle.wasm_grammars.proofs.Steps.{begins, then, passes, stops, fails_at, ends_in, stays}
use Rattle.wasm_sections.specs.Preamble.{preamble}
use Rattle.wasm_sections.proofs.Within.{start_within}
use Rattle.wasm_sections.proofs.preamble.read_preamble.Goals as goal

pub returns-in_err-magic : goal.returns-in_err-magic
returns-in_err-magic c = stays _ c.from_residual.ensures.1 (fails_at (begins preamble c.clone-ahead.ensures) c.in_err-magic.ensures)

pub returns-then-magic-ne-MAGIC : goal.returns-then-magic-ne-MAGIC
returns-then-magic-ne-MAGIC c =
    let magic = then (begins preamble c.clone-ahead.ensures) c.in_ok-magic.ensures in (
      refl,
      stops magic (ne_eqb _ _ c.if-magic-ne-MAGIC.true) (λ e. cc e) (start_within c.clone-ahead.ensures c.is_within.ensures c.in_ok-magic.ensures.2) c.new.ensures.message
          (c.new.ensures.offset ∙ c.original_position.ensures),
    )

pub returns-in_err-version : goal.returns-in_err-version
returns-in_err-version c =
    let magic = passes (then (begins preamble c.clone-ahead.ensures) c.in_ok-magic.ensures) (eq-eqb _ _ c.if-magic-ne-MAGIC.false) in
    stays _ c.from_residual-in_err-version.ensures.1 (ends_in magic c.in_err-version.ensures.1)

pub returns : goal.returns
returns c = (passes (then (begins preamble c.clone-ahead.ensures) c.in_ok-magic.ensures) (eq-eqb _ _ c.if-magic-ne-MAGIC.false)).reads _ _ c.in_ok-version.ensures
