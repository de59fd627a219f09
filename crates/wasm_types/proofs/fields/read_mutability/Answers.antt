use Rattle.std.proofs.Common.{◌≤◌, refl, ◌∙◌, arith}
use Rattle.std.proofs.lemmas.Bool.{le-leb, lt-leb}
use Rattle.wasm_grammars.proofs.Steps.{begins, then, passes, stops, fails_at, ends, ends_in, stays}
use Rattle.wasm_types.specs.Types.{mutability, is_mutable}
use Rattle.wasm_types.proofs.fields.read_mutability.Goals as goal

pub returns-in_err-byte : goal.returns-in_err-byte
returns-in_err-byte c = stays _ c.from_residual.ensures.1 (fails_at (begins mutability c.clone-ahead.ensures) c.in_err-byte.ensures)

pub returns-then-byte-gt1 : goal.returns-then-byte-gt1
returns-then-byte-gt1 c =
    let after = then (begins mutability c.clone-ahead.ensures) c.in_ok-byte.ensures in
    let at = c.new.ensures.offset ∙ c.original_position.ensures in
    (refl, ends_in after (stops (begins (is_mutable c.in_ok-byte.byte) refl) (lt-leb _ _ c.if-byte-gt1.true) (λ e. absurd (cc e)) c.is_within.ensures c.new.ensures.message at))

pub returns : goal.returns
returns c =
    let after = then (begins mutability c.clone-ahead.ensures) c.in_ok-byte.ensures in
    let low : c.in_ok-byte.byte ≤ 1 = omega arith in
    after.reads _ _ (ends (passes (begins (is_mutable c.in_ok-byte.byte) refl) (le-leb _ _ low)))
