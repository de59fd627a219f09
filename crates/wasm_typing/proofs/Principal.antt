-- The operands that instructions leave are those that the algorithm holds.
use Rattle.std.proofs.Common.{◌≡◌, ℕ, true, false, List, [], ◌∷◌, ◌++◌, Some, sym, subst, ◌∙◌}
use Rattle.std.proofs.lemmas.List.{append-nil}
use Rattle.wasm_grammar.specs.Tree.{Instructions}
use Rattle.wasm_typing.specs.Types.{Stack}
use Rattle.wasm_typing.specs.Matching.{TypeOrder, IsOrder}
use Rattle.wasm_typing.specs.Rules.{Context, order_of}
use Rattle.wasm_typing.specs.Typing.{AllTyped, subsumed}
use Rattle.wasm_typing.specs.Checking.{State, state, Holds, run_all}
use Rattle.wasm_typing.proofs.Stacks.{all_match_itself}
use Rattle.wasm_typing.proofs.Trees.{known_match, match_known, run_all_typed, all_typed_run}

pub typed_runs_on : {A : Type 0} → (C : Context A) → IsOrder (order_of C) → (set : List ℕ) (tree : Instructions A) (takes leaves : Stack) (xs : List ℕ) →
    AllTyped C set tree takes xs leaves → (next : State) × (run_all C tree (state takes false set) ≡ Some next)
typed_runs_on C ok set tree takes leaves xs d =
    let r = all_typed_run d ok (state takes false set) [] (λ x m. m) (match_known (order_of C) ok takes) in
    (r.next, r.is)

pub leaves_are_held : {A : Type 0} → (C : Context A) → IsOrder (order_of C) → (set : List ℕ) (tree : Instructions A) (takes leaves : Stack) (next : State) (xs : List ℕ) →
    run_all C tree (state takes false set) ≡ Some next → AllTyped C set tree takes xs leaves → Holds (order_of C) next.operands next.unreachable leaves
leaves_are_held C ok set tree takes leaves next xs e d =
    let r = all_typed_run d ok (state takes false set) [] (λ x m. m) (match_known (order_of C) ok takes) in
    let same : r.next ≡ next = cc (sym r.is ∙ e) in
    subst (λ x. Holds (order_of C) x.operands x.unreachable leaves) same
    (subst (λ w. Holds (order_of C) r.next.operands r.next.unreachable w) (append-nil leaves) r.holds)

pub held_is_left : {A : Type 0} → (C : Context A) → IsOrder (order_of C) → (set : List ℕ) (tree : Instructions A) (takes leaves : Stack) (next : State) →
    run_all C tree (state takes false set) ≡ Some next → Holds (order_of C) next.operands next.unreachable leaves → (xs : List ℕ) × AllTyped C set tree takes xs leaves
held_is_left C ok set tree takes leaves next e h =
    let b = run_all_typed tree C ok (state takes false set) next leaves e h in
    (b.xs, subsumed takes leaves b.xs (known_match (order_of C) takes b.from b.holds) b.typed (all_match_itself (order_of C) ok leaves) (λ x m. m))

-- In unreachable code any operands are below.
holds_above : (O : TypeOrder) (k s below : Stack) → Holds O k true s → Holds O k true (s ++ below)
holds_above O [] s below h = tt
holds_above O (v ∷ k) [] below h = elim h [ ]
holds_above O (v ∷ k) (x ∷ s) below h = (h.0, holds_above O k s below h.1)

pub any_below : {A : Type 0} → (C : Context A) → IsOrder (order_of C) → (set : List ℕ) (tree : Instructions A) (takes leaves below : Stack) (next : State) (xs : List ℕ) →
    run_all C tree (state takes false set) ≡ Some next → next.unreachable ≡ true → AllTyped C set tree takes xs leaves →
    (ys : List ℕ) × AllTyped C set tree takes ys (leaves ++ below)
any_below C ok set tree takes leaves below next xs e u d =
    let h = leaves_are_held C ok set tree takes leaves next xs e d in
    held_is_left C ok set tree takes (leaves ++ below) next e
    (subst (λ any. Holds (order_of C) next.operands any (leaves ++ below)) (sym u)
    (holds_above (order_of C) next.operands leaves below (subst (λ any. Holds (order_of C) next.operands any leaves) u h)))
