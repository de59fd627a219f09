use Rattle.std.proofs.Common.{pos, ◌<ℤ◌, w64, refl, ◌∙◌, arith, rules}
use Rattle.std.proofs.lemmas.Int.{ints, to_z-of_z}
use mir.Val.{SFits}
use Rattle.wasm_grammars.proofs.Steps.{begins, then, passes, stops, fails_at, ends_in, stays}
use Rattle.wasm_types.specs.Types.{cont_type, cont_index}
use Rattle.wasm_types.proofs.Indices.{negative, above}
use Rattle.wasm_types.proofs.functions.ContTypeRead.read_from.Goals as goal

pub returns-in_err-index : goal.returns-in_err-index
returns-in_err-index c = stays _ c.from_residual.ensures.1 (fails_at (begins cont_type c.clone-ahead.ensures) c.in_err-index.ensures)

pub returns-then-index-lt0 : goal.returns-then-index-lt0
returns-then-index-lt0 c =
    let n = c.in_ok-index.index in
    let fits : SFits w64 n = search rules in
    let same = to_z-of_z w64 n fits in
    let under : n <ℤ pos 0 = omega (arith, ints, c.if-index-lt0.true, same) in
    let after = then (begins cont_type c.clone-ahead.ensures) c.in_ok-index.ensures in
    let at = c.new.ensures.offset ∙ c.original_position.ensures in
    (refl, ends_in after (stops (begins (cont_index n) refl) (negative n under) (λ e. absurd (cc e)) c.is_within.ensures c.new.ensures.message at))

pub returns-then-index-gt-MAX_TYPE_INDEX : goal.returns-then-index-gt-MAX_TYPE_INDEX
returns-then-index-gt-MAX_TYPE_INDEX c =
    let n = c.in_ok-index.index in
    let fits : SFits w64 n = search rules in
    let same = to_z-of_z w64 n fits in
    let over : pos 1048575 <ℤ n = omega (arith, ints, c.if-index-gt-MAX_TYPE_INDEX.true, same) in
    let tests = above n over in
    let after = then (begins cont_type c.clone-ahead.ensures) c.in_ok-index.ensures in
    let new = c.new-then-index-gt-MAX_TYPE_INDEX.ensures in
    let at = new.offset ∙ c.original_position-then-index-gt-MAX_TYPE_INDEX.ensures in
    (refl, ends_in after (stops (passes (begins (cont_index n) refl) tests.0) tests.1 (λ e. absurd (cc e)) c.is_within.ensures new.message at))
