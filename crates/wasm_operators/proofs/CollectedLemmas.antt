use Rattle.std.proofs.Common.{◌≡◌, ℕ, ◌≤◌, List, [], ◌∷◌, ◌++◌, Result, refl, ap, ◌∙◌, append_assoc, inl, inr, arith}
use Rattle.wasm_instr.specs.declared.operator.Operator.{Operator}
use Rattle.wasm_operators.specs.Expression.{Placed}
use Rattle.wasm_operators.specs.Collecting.{CollectsOne, AreMade, Collects, GrowsAsFilled}
use Rattle.wasm_below.specs.declared.error.Error.{Error}
use Rattle.wasm_operators.specs.Reading.{State, Adds, RunsToEnd, Decoder}

made_push : {T : Type 0} (holds : Operator → T → Type 0) (placed : Placed) (items : List (T × ℕ)) (op : Operator) (at : ℕ) (made : T) → AreMade holds placed items →
    holds op made → AreMade holds (placed ++ (op, at) ∷ []) (items ++ (made, at) ∷ [])
made_push {T} holds [] items op at made none held = (made, [], ap (λ (x : List (T × ℕ)). x ++ (made, at) ∷ []) none, held, refl)
made_push {T} holds (p ∷ ps) items op at made (first, others, same, one, more) held =
    (first, others ++ (made, at) ∷ [], ap (λ (x : List (T × ℕ)). x ++ (made, at) ∷ []) same, one, made_push holds ps others op at made more held)

pub collected_push : {T : Type 0} (holds : Operator → T → Type 0) (old mid new : List (T × ℕ)) (placed : Placed) (op : Operator) (at : ℕ) → Collects holds old mid placed →
    CollectsOne holds at mid op new → Collects holds old new (placed ++ (op, at) ∷ [])
collected_push {T} holds old mid new placed op at (items, are, same) (made, held, one) = (
  items ++ (made, at) ∷ [],
  made_push holds placed items op at made are held,
  one ∙ ap (λ (x : List (T × ℕ)). x ++ (made, at) ∷ []) same ∙ append_assoc old items ((made, at) ∷ []),
)

made_same : (placed items : Placed) → AreMade (λ op made. made ≡ op) placed items → items ≡ placed
made_same [] items none = none
made_same (p ∷ ps) items (first, others, same, one, more) =
    same ∙ ap (λ (x : Operator). (x, p.1) ∷ others) one ∙ ap (λ (x : Placed). p ∷ x) (made_same ps others more)

pub collected_adds : (old new placed : Placed) → Collects (λ op made. made ≡ op) old new placed → Adds old new placed
collected_adds old new placed (items, are, same) = same ∙ ap (λ (x : Placed). old ++ x) (made_same placed items are)

pub collected_runs : {X : Type 0} (decoder : Decoder) (result : Result X Error) (start end : State) (old new : Placed) →
    RunsToEnd decoder (Collects (λ op made. made ≡ op) old new) result start end → RunsToEnd decoder (Adds old new) result start end
collected_runs decoder result start end old new (placed, collects, takes, ends) = (placed, collected_adds old new placed collects, takes, ends)

-- Capacity grows twice at one number of items, and then items are added.
pub filled_further : (before mid next now l m : ℕ) → GrowsAsFilled before l mid → GrowsAsFilled mid l next → l ≤ m → now ≡ next → GrowsAsFilled before m now
filled_further before mid next now l m (inl same) (inl still) more is = inl (is ∙ still ∙ same)
filled_further before mid next now l m (inl same) (inr (full, twice, few)) more is =
    inr (omega (arith, same, full, more), omega (arith, same, twice, is), omega (arith, few, more, is))
filled_further before mid next now l m (inr (full, twice, few)) (inl still) more is =
    inr (omega (arith, full, more), omega (arith, twice, still, is), omega (arith, few, still, more, is))
filled_further before mid next now l m (inr (full, twice, few)) (inr (full2, twice2, few2)) more is =
    inr (omega (arith, full, more), omega (arith, twice, twice2, is), omega (arith, few2, more, is))
