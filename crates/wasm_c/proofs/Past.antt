-- The bytes of an array after its open frames.
use Rattle.std.proofs.Common.{◌≡◌, ℕ, ◌+◌, ◌-◌, ◌≤◌, List, [], ◌∷◌, ◌++◌, length, drop, max, Option, Some, None, sym, ap, subst, ◌∙◌, arith}
use Rattle.std.proofs.lemmas.List.{drop-drop}
use Rattle.wasm_operators.specs.grammar.declared.frame_kind.FrameKind.{FrameKind}
use Rattle.wasm_operators.specs.grammar.Frames.{frames_after}
use Rattle.wasm_operators.specs.instr.declared.operator.Operator.{Operator}
use Rattle.wasm_operators.specs.instr.Roles.{role_of}
use Rattle.wasm_operators.specs.Expression.{Placed}
use Rattle.wasm_operators.specs.Openings.{most_open}
use Rattle.wasm_operators.specs.Reading.{State}
use Rattle.wasm_c.specs.Steps.{ReadsEach, MostOpenPast}

-- Lists that are equal from an index on are equal from a greater one on.
past_more : (m n : ℕ) (old new : List ℕ) → m ≤ n → drop m new ≡ drop m old → drop n new ≡ drop n old
past_more m n old new below same =
    let split : m + (n - m) ≡ n = omega (arith, below) in
    sym (ap (λ k. drop k new) split) ∙ sym (drop-drop (n - m) m new) ∙ ap (drop (n - m)) same ∙ drop-drop (n - m) m old ∙ ap (λ k. drop k old) split

most_along : (frames : Option (List FrameKind)) (placed : Placed) (p : Operator × ℕ) → most_open frames placed ≤ most_open frames (placed ++ p ∷ [])
most_along None placed p = omega arith
most_along (Some frames) [] p = omega arith
most_along (Some frames) (q ∷ qs) p = let others = most_along (frames_after frames (role_of q.0)) qs p in omega (arith, others)

most_last : (old new : State) (placed : Placed) → ReadsEach old placed new → length new.frames ≤ most_open (Some old.frames) placed
most_last old new [] same = let n = ap (λ (s : State). length s.frames) same in omega (arith, n)
most_last old new (p ∷ ps) (between, takes, at, others) =
    let last = most_last between new ps others in
    subst (λ frames. length new.frames ≤ max (length old.frames) (most_open frames ps)) (sym takes.frames) (omega (arith, last))

-- After one more operator, which changes no byte after the frames that are then open.
pub past_on : (old next : State) (placed : Placed) (p : Operator × ℕ) (frames_old frames_now frames_next : List ℕ) →
    ReadsEach old (placed ++ p ∷ []) next → MostOpenPast old placed frames_old frames_now →
    drop (length next.frames) frames_next ≡ drop (length next.frames) frames_now → MostOpenPast old (placed ++ p ∷ []) frames_old frames_next
past_on old next placed p frames_old frames_now frames_next reads past one =
    let all = most_open (Some old.frames) (placed ++ p ∷ []) in
    past_more (length next.frames) all frames_now frames_next (most_last old next (placed ++ p ∷ []) reads) one ∙
    past_more (most_open (Some old.frames) placed) all frames_old frames_now (most_along (Some old.frames) placed p) past
