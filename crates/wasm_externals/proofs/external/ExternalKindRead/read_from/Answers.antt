use Rattle.std.proofs.Common.{refl, sym, ◌∙◌}
use Rattle.std.proofs.lemmas.Bool.{le-leb, lt-leb}
use Rattle.wasm_externals.specs.Externals.{external_kind}
use Rattle.wasm_grammars.proofs.Steps.{begins, then, passes, stops, begun, fails_at, ends_as, stays}
use Rattle.wasm_externals.proofs.external.ExternalKindRead.read_from.Goals as goal

pub returns-in_err-byte : goal.returns-in_err-byte
returns-in_err-byte c = stays _ c.from_residual.ensures.1 (fails_at (begins external_kind c.clone-ahead.ensures) c.in_err-byte.ensures)

pub returns-in-Some : goal.returns-in-Some
returns-in-Some c =
    let byte = then (begins external_kind c.clone-ahead.ensures) c.in_ok-byte.ensures in
    ends_as (passes byte (le-leb _ _ c.in-Some.ensures.some.0)) (sym c.in-Some.ensures.some.1)

pub returns-in-None : goal.returns-in-None
returns-in-None c =
    let byte = then (begins external_kind c.clone-ahead.ensures) c.in_ok-byte.ensures in (
      refl,
      stops byte (lt-leb _ _ c.in-None.ensures.none) (λ e. cc e) (begun c.clone-ahead.ensures c.in_ok-byte.ensures) c.new.ensures.message
          (c.new.ensures.offset ∙ c.original_position.ensures),
    )
