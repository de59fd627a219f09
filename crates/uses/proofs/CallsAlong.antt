use Rattle.std.proofs.Common.{◌≡◌, List, [], ◌∷◌, ◌++◌, false, sym, ap, ◌∙◌, append-nil, append_assoc}
use Rattle.wasm_operators.specs.Expression.{Placed}
use Rattle.wasm_operators.specs.Visiting.{VisitRun, Visited}
use Rattle.uses.specs.Calls.{Found, calls_of, called, CallsVisit}

calls_run : {A : Type 0} (placed : Placed) (outcomes : List A) (before after : Found) → after.refused ≡ false →
    VisitRun {A = A} (λ s op a t. CallsVisit s op t) before placed outcomes after →
    (before.refused ≡ false) × (after.calls ≡ before.calls ++ calls_of placed)
calls_run [] outcomes before after ok run = (ap (λ s. s.refused) (sym run.1) ∙ ok, ap (λ s. s.calls) run.1 ∙ sym (append-nil before.calls))
calls_run (p ∷ ps) outcomes before after ok (first, others, between, is, visit, run) =
    let rest = calls_run ps others between after ok run in
    let one = visit rest.0 in
    (one.0, rest.1 ∙ ap (λ z. z ++ calls_of ps) one.1 ∙ append_assoc before.calls (called p.0) (calls_of ps))

pub calls_along : {A : Type 0} (placed : Placed) (before after : Found) → before.calls ≡ [] → after.refused ≡ false →
    Visited {A = A} (λ s op a t. CallsVisit s op t) before after placed → after.calls ≡ calls_of placed
calls_along placed before after none ok (outcomes, run) =
    (calls_run placed outcomes before after ok run).1 ∙ ap (λ z. z ++ calls_of placed) none
