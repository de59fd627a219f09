-- If each visit adds one, the count is the length of the list.
use Rattle.std.proofs.Common.{◌≡◌, ℕ, ◌+◌, ◌-◌, ◌^◌, ◌<◌, List, [], ◌∷◌, length, ap, ◌∙◌, arith}
use Rattle.wasm_operators.specs.instr.declared.operator.Operator.{Operator}
use Rattle.wasm_operators.specs.Expression.{Placed}
use Rattle.wasm_operators.specs.Visiting.{VisitRun, Visited}

counted_run : {V A : Type 0} (total : V → ℕ) (placed : Placed) (outcomes : List A) (before after : V) →
    VisitRun (λ (s : V) (op : Operator) (a : A) (t : V). total s < 2 ^ 64 - 1 → total t ≡ total s + 1) before placed outcomes after →
    total before + length placed < 2 ^ 64 → total after ≡ total before + length placed
counted_run total [] outcomes before after run few = ap total run.1 ∙ omega arith
counted_run total (p ∷ ps) outcomes before after (first, others, between, is, visit, run) few =
    let one : total between ≡ total before + 1 = visit (omega arith) in
    let rest = counted_run total ps others between after run (omega (arith, few, one)) in
    omega (arith, one, rest)

pub counted_along : {V A : Type 0} (total : V → ℕ) (placed : Placed) (before after : V) →
    Visited {A = A} (λ s op a t. total s < 2 ^ 64 - 1 → total t ≡ total s + 1) before after placed →
    total before ≡ 0 → length placed < 2 ^ 64 → total after ≡ length placed
counted_along total placed before after (outcomes, run) none few =
    let all = counted_run total placed outcomes before after run (omega (arith, few, none)) in
    omega (arith, all, none)
