-- If each visit adds one, the count is the length of the list.
use Rattle.std.proofs.Common.{◌≡◌, ◌+◌, ◌^◌, ◌<◌, List, [], ◌∷◌, length, ap, ◌∙◌, arith}
use Rattle.wasm_operators.specs.Expression.{Placed}
use Rattle.wasm_operators.specs.Visiting.{VisitRun, Visited}
use Rattle.uses.specs.declared.tally.Tally.{Tally}
use Rattle.uses.specs.Tallies.{CountsOne}

tallied_run : {A : Type 0} (placed : Placed) (outcomes : List A) (before after : Tally) →
    VisitRun {A = A} (λ s op a t. CountsOne s.operators t.operators) before placed outcomes after →
    before.operators + length placed < 2 ^ 64 → after.operators ≡ before.operators + length placed
tallied_run [] outcomes before after run few = ap (λ (s : Tally). s.operators) run.1 ∙ omega arith
tallied_run (p ∷ ps) outcomes before after (first, others, between, is, visit, run) few =
    let one : between.operators ≡ before.operators + 1 = visit (omega arith) in
    let later = tallied_run ps others between after run (omega (arith, few, one)) in
    omega (arith, one, later)

pub tallied_along : {A : Type 0} (placed : Placed) (before after : Tally) →
    Visited {A = A} (λ s op a t. CountsOne s.operators t.operators) before after placed →
    before.operators ≡ 0 → length placed < 2 ^ 64 → after.operators ≡ length placed
tallied_along placed before after (outcomes, run) none few =
    let all = tallied_run placed outcomes before after run (omega (arith, few, none)) in
    omega (arith, all, none)
