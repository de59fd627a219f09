use Rattle.std.proofs.Common.{◌≡◌, List, [], ◌∷◌, None, sym, ap, subst, ◌∙◌}
use Rattle.wasm_operators.specs.Expression.{Placed}
use Rattle.wasm_operators.specs.Visiting.{VisitRun, Visited}
use Rattle.uses.specs.declared.heights.Heights.{Heights}
use Rattle.uses.specs.Heights.{HaveArities, StepsHeight}

run : {A : Type 0} (placed : Placed) (outcomes : List A) (before after : Heights) → after.fault ≡ None →
    VisitRun {A = A} (λ s op a t. StepsHeight s op t) before placed outcomes after →
    (before.fault ≡ None) × HaveArities before.context.types.now before.context.functions.now placed
run [] outcomes before after ok visits = (ap (λ s. s.fault) (sym visits.1) ∙ ok, tt)
run (p ∷ ps) outcomes before after ok (first, others, between, is, visit, visits) =
    let rest = run ps others between after ok visits in
    let there = subst (λ types. HaveArities types between.context.functions.now ps) visit.keeps.types rest.1 in (
      visit.keeps.fault rest.0,
      (visit.arity rest.0, subst (λ functions. HaveArities before.context.types.now functions ps) visit.keeps.functions there),
    )

pub arities_along : {A : Type 0} (placed : Placed) (before after : Heights) → after.fault ≡ None →
    Visited {A = A} (λ s op a t. StepsHeight s op t) before after placed →
    HaveArities before.context.types.now before.context.functions.now placed
arities_along placed before after ok (outcomes, visits) = (run placed outcomes before after ok visits).1
