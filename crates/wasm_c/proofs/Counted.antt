-- If each visit adds one, the count grows by the length of the list.
use Rattle.std.proofs.Common.{◌≡◌, ℕ, ◌+◌, ◌-◌, ◌^◌, ◌<◌, ◌≤◌, List, [], ◌∷◌, ◌++◌, length, length-append, drop, append-nil, ap, sym, ◌∙◌, arith, ◌⊎◌, inl, inr}
use Rattle.wasm_operators.specs.instr.declared.operator.Operator.{Operator}
use Rattle.wasm_operators.specs.Expression.{Placed}
use Rattle.wasm_operators.specs.Visiting.{VisitRun, Visited}
use Rattle.wasm_view.specs.View.{views}
use Rattle.wasm_view.specs.declared.view.WasmOperator.{WasmOperator}
use Rattle.wasm_view.specs.Lists.{written}
use Rattle.wasm_c.proofs.Written.{written_after, written_first, views_join, views_length}
use Rattle.std.proofs.lemmas.List.{drop_all}

counted_run : {V A : Type 0} (total : V → ℕ) (placed : Placed) (outcomes : List A) (before after : V) →
    VisitRun (λ (s : V) (op : Operator) (a : A) (t : V). total s < 2 ^ 64 - 1 → total t ≡ total s + 1) before placed outcomes after →
    total before + length placed < 2 ^ 64 → total after ≡ total before + length placed
counted_run total [] outcomes before after run few = ap total run.1 ∙ omega arith
counted_run total (p ∷ ps) outcomes before after (first, others, between, is, visit, run) few =
    let one : total between ≡ total before + 1 = visit (omega arith) in
    let rest = counted_run total ps others between after run (omega (arith, few, one)) in
    omega (arith, one, rest)

pub counted_on : {V A : Type 0} (total : V → ℕ) (found more : Placed) (before after : V) →
    Visited {A = A} (λ s op a t. total s < 2 ^ 64 - 1 → total t ≡ total s + 1) before after more → total before ≡ length found →
    length (found ++ more) < 2 ^ 64 → total after ≡ length (found ++ more)
counted_on total found more before after (outcomes, run) first few =
    let sum = length-append found more in
    let all = counted_run total more outcomes before after run (omega (arith, few, sum, first)) in
    omega (arith, all, sum, first)

-- A full array has the C structs of the first operators, however many follow.
pub array_full : (found more : Placed) (old new : List WasmOperator) → length found ≡ length old → new ≡ views found ++ drop (length found) old →
    new ≡ written (views (found ++ more)) old
array_full found more old new full is =
    let room : length (views found) ≤ length old = omega (arith, views_length found, full) in
    let after : drop (length found) old ≡ [] = drop_all (length found) old (omega (arith, full)) in
    let others : drop (length (views found)) old ≡ [] = drop_all (length (views found)) old (omega (arith, views_length found, full)) in
    is ∙ ap (λ list. views found ++ list) (after ∙ sym (ap (written (views more)) others)) ∙ sym (written_after (views found) (views more) old room) ∙
    ap (λ list. written list old) (sym (views_join found more))

-- An array that is full, or after whose operators no operator follows.
pub array_whole : (found more : Placed) (old new : List WasmOperator) → length found ≤ length old → (length found ≡ length old) ⊎ (length more ≡ 0) →
    new ≡ views found ++ drop (length found) old → new ≡ written (views (found ++ more)) old
array_whole found more old new fits (inl full) is = array_full found more old new full is
array_whole found [] old new fits (inr none) is =
    is ∙ sym (written_first found old fits) ∙ ap (λ list. written (views list) old) (sym (append-nil found))
array_whole found (p ∷ ps) old new fits (inr none) is = absurd (omega (arith, none))
