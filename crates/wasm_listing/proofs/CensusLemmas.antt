use Rattle.std.proofs.Common.{◌≡◌, ◌≢◌, ℕ, ◌+◌, ◌-◌, ◌^◌, ◌≤◌, List, [], ◌∷◌, length, map, refl, sym, subst, ap, ◌∙◌, arith, cond, Bool, true, false, nat_eq, Result, Ok, Err}
use Rattle.std.proofs.lemmas.List.{length-append}
use Rattle.std.specs.Cmp.Lexicographic.{pointwise}
use Rattle.wasm_operators.specs.below.declared.error.Error.{Error}
use Rattle.wasm_operators.specs.Laws.{IsNoLonger}
use Rattle.wasm_operators.specs.below.declared.message.Message.TheVariants as message
use Rattle.wasm_operators.specs.below.Source.{Reader, rest, offset_of}
use Rattle.wasm_operators.specs.instr.declared.operator.Operator.{Operator}
use Rattle.wasm_operators.specs.imm.Proposal.{proposal_name}
use Rattle.wasm_operators.specs.instr.Row.{proposal_of}
use Rattle.wasm_operators.specs.Expression.{Placed}
use Rattle.wasm_operators.specs.Visiting.{VisitRun, Visited}
use Rattle.wasm_operators.specs.Locals.{Declaration}
use Rattle.wasm_operators.specs.Body.{StopsBody, ReadsBody}
use Rattle.wasm_listing.specs.declared.fault.DumpFault.TheVariants as fault
use Rattle.wasm_listing.specs.Census.{proposals, count_of, counts_of, one_more, one_more_of, CountsVisit, Counted, Counts}
use Rattle.wasm_listing.specs.Dump.{IsBody}

-- The counts after these operators.
abbrev pub added : List (List ℕ) → List ℕ → Placed → List ℕ
added (p ∷ ps) (n ∷ ns) placed = (n + count_of p placed) ∷ added ps ns placed
added _ _ placed = []

added_none : (ps : List (List ℕ)) (ns : List ℕ) → length ps ≡ length ns → ns ≡ added ps ns []
added_none [] [] e = refl
added_none (p ∷ ps) [] e = absurd (omega (arith, e))
added_none [] (n ∷ ns) e = absurd (omega (arith, e))
added_none (p ∷ ps) (n ∷ ns) e =
    let same : n ≡ n + 0 = omega arith in
    ap (λ m. m ∷ ns) same ∙ ap (λ others. (n + 0) ∷ others) (added_none ps ns (omega (arith, e)))

added_zeros : (ps : List (List ℕ)) (placed : Placed) → added ps (map (λ p. 0) ps) placed ≡ map (λ p. count_of p placed) ps
added_zeros [] placed = refl
added_zeros (p ∷ ps) placed =
    let same : 0 + count_of p placed ≡ count_of p placed = omega arith in
    ap (λ m. m ∷ added ps (map (λ p. 0) ps) placed) same ∙ ap (λ others. count_of p placed ∷ others) (added_zeros ps placed)

abbrev pub AreWithin : ℕ → List ℕ → Type 0
AreWithin most [] = Unit {0}
AreWithin most (n ∷ ns) = (n ≤ most) × AreWithin most ns

one_within : (b : Bool) (n most : ℕ) → n ≤ most → cond b (one_more n) n ≤ most + 1
one_within true n most h = omega (arith, h)
one_within false n most h = omega (arith, h)

counted_within : (proposal : List ℕ) (ps : List (List ℕ)) (ns : List ℕ) (most : ℕ) → AreWithin most ns → AreWithin (most + 1) (one_more_of proposal ps ns)
counted_within proposal [] ns most h = tt
counted_within proposal (p ∷ ps) [] most h = tt
counted_within proposal (p ∷ ps) (n ∷ ns) most h =
    (one_within (pointwise nat_eq p proposal) n most h.0, counted_within proposal ps ns most h.1)

counted_length : (proposal : List ℕ) (ps : List (List ℕ)) (ns : List ℕ) → length ps ≡ length ns → length ps ≡ length (one_more_of proposal ps ns)
counted_length proposal [] ns e = refl
counted_length proposal (p ∷ ps) [] e = absurd (omega (arith, e))
counted_length proposal (p ∷ ps) (n ∷ ns) e = let others = counted_length proposal ps ns (omega (arith, e)) in omega (arith, others)

one_added : (b : Bool) (n k most : ℕ) → n ≤ most → most + 1 ≤ 2 ^ 64 - 1 → cond b (one_more n) n + k ≡ n + (cond b 1 0 + k)
one_added true n k most h below = omega (arith, h, below)
one_added false n k most h below = omega arith

counted_adds : (ps : List (List ℕ)) (ns : List ℕ) (p : Operator × ℕ) (placed : Placed) (most : ℕ) → AreWithin most ns → most + 1 ≤ 2 ^ 64 - 1 →
    added ps (one_more_of (proposal_name (proposal_of p.0)) ps ns) placed ≡ added ps ns (p ∷ placed)
counted_adds [] ns p placed most h below = refl
counted_adds (q ∷ qs) [] p placed most h below = refl
counted_adds (q ∷ qs) (n ∷ ns) p placed most h below =
    let b = pointwise nat_eq q (proposal_name (proposal_of p.0)) in
    ap (λ m. m ∷ added qs (one_more_of (proposal_name (proposal_of p.0)) qs ns) placed) (one_added b n (count_of q placed) most h.0 below) ∙
    ap (λ others. (n + (cond b 1 0 + count_of q placed)) ∷ others) (counted_adds qs ns p placed most h.1 below)

counts_along : (placed : Placed) (outcomes : List (Unit {0})) (before after : List ℕ) (most : ℕ) → length proposals ≡ length before → AreWithin most before →
    most + length placed ≤ 2 ^ 64 - 1 → VisitRun {A = Unit {0}} (λ s op a t. CountsVisit s op t) before placed outcomes after →
    after ≡ added proposals before placed
counts_along [] outcomes before after most same h below run = run.1 ∙ added_none proposals before same
counts_along (p ∷ ps) outcomes before after most same h below (first, others, between, is, visits, run) =
    let more : most + 1 + length ps ≤ 2 ^ 64 - 1 = omega (arith, below) in
    let next : most + 1 ≤ 2 ^ 64 - 1 = omega (arith, below) in
    let counted_now : AreWithin (most + 1) between = subst (AreWithin (most + 1)) (sym visits) (counted_within (proposal_name (proposal_of p.0)) proposals before most h) in
    let long : length proposals ≡ length between = counted_length (proposal_name (proposal_of p.0)) proposals before same ∙ ap length (sym visits) in
    counts_along ps others between after (most + 1) long counted_now more run ∙ ap (λ counts. added proposals counts ps) visits ∙
    counted_adds proposals before p ps most h next

zeros_within : (ps : List (List ℕ)) → AreWithin 0 (map (λ p. 0) ps)
zeros_within [] = tt
zeros_within (p ∷ ps) = (omega arith, zeros_within ps)

pub visited_counts : (placed : Placed) (before after : List ℕ) → before ≡ map (λ p. 0) proposals → length placed ≤ 2 ^ 64 - 1 →
    Visited {A = Unit {0}} (λ s op a t. CountsVisit s op t) before after placed → after ≡ counts_of placed
visited_counts placed before after none below (outcomes, run) =
    counts_along placed outcomes before after 0 (ap length (sym none)) (subst (AreWithin 0) (sym none) (zeros_within proposals)) (omega (arith, below)) run ∙
    ap (λ counts. added proposals counts placed) none ∙ added_zeros proposals placed

pub body_length : (input : Reader) (declarations : List Declaration) (placed : Placed) → IsNoLonger input.features → IsBody input declarations placed →
    length placed ≤ length (rest input)
body_length input declarations placed no_longer h =
    let fits = no_longer (offset_of input + length h.locals) placed h.expression h.encodes_expression.0 in
    let whole : length (rest input) ≡ length h.locals + length h.expression = ap length h.parts ∙ length-append h.locals h.expression in
    omega (arith, fits, whole)

pub whole_counts : (r : Result (Unit {0}) Error) (x : Unit {0}) (input : Reader) (before after : List ℕ) → IsNoLonger input.features → r ≡ Ok x →
    ReadsBody (Counted before after) r input → before ≡ map (λ p. 0) proposals → length (rest input) ≤ 2 ^ 64 - 1 → Counts input (Ok after)
whole_counts (Ok y) x input before after no_longer is (declarations, placed, visited, whole) none fits =
    let few = body_length input declarations placed no_longer whole in
    (declarations, placed, whole, visited_counts placed before after none (omega (arith, few, fits)) visited)
whole_counts (Err e) x input before after no_longer is h none fits = absurd (cc is)

pub other_counts : {X : Type 0} (r : Result X Error) (e : Error) (input : Reader) (before after : List ℕ) → r ≡ Err e →
    ReadsBody (Counted before after) r input → e.message ≢ message.OutOfMemory → Counts input (Err (fault.Refused e))
other_counts (Ok x) e input before after is h other = absurd (cc is)
other_counts {X} (Err d) e input before after is h other =
    let same : d ≡ e = ap found is in
    let stops = h (λ m. other (sym (ap (λ x. x.message) same) ∙ m)) in
    (stops.0, (other, subst (λ x. StopsBody x input stops.0) same stops.2))
  where
    found : Result X Error → Error
    found (Err x) = x
    found (Ok x) = d
