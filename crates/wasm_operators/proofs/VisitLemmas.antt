use Rattle.std.proofs.Common.{◌≡◌, ℕ, Bool, true, false, cond, List, [], ◌∷◌, ◌++◌, refl, sym, subst, ap, ◌∙◌}
use Rattle.wasm_below.specs.declared.features.WasmFeatures.{WasmFeatures}
use Rattle.wasm_grammar.specs.declared.frame_kind.FrameKind.{FrameKind}
use Rattle.wasm_instr.specs.declared.operator.Operator.{Operator}
use Rattle.wasm_instr.specs.declared.operator.Operator.TheVariants as operator
use Rattle.wasm_instr.specs.Kinds.{IsSimd}
use Rattle.wasm_decode.specs.OperatorSets.{OperatorSet, with_simd, without_simd, EncodesOf}
use Rattle.wasm_operators.specs.Expression.{Placed, IsBeginningOf}
use Rattle.wasm_operators.specs.Sets.{VisitedOf}
use Rattle.wasm_operators.specs.Visiting.{VisitRun, Visited, is_simd, scalar_beginning, IsScalar}

pub visit_run_append : {V A : Type 0} (visits : V → Operator → A → V → Type 0) (ps qs : Placed) (xs ys : List A) (before between after : V) →
    VisitRun visits before ps xs between → VisitRun visits between qs ys after → VisitRun visits before (ps ++ qs) (xs ++ ys) after
visit_run_append {V} {A} visits [] qs xs ys before between after (none, same) run =
    let there : VisitRun visits before qs ys after = subst (λ (v : V). VisitRun visits v qs ys after) same run in
    subst (λ (zs : List A). VisitRun visits before qs zs after) (sym (ap (λ (zs : List A). zs ++ ys) none)) there
visit_run_append {V} {A} visits (p ∷ ps) qs xs ys before between after (first, others, mid, e, visit, run) more = (
  first,
  others ++ ys,
  mid,
  ap (λ (zs : List A). zs ++ ys) e,
  visit,
  visit_run_append visits ps qs others ys mid between after run more,
)

pub visited_append : {V A : Type 0} (visits : V → Operator → A → V → Type 0) (ps qs : Placed) (before between after : V) →
    Visited visits before between ps → Visited visits between after qs → Visited visits before after (ps ++ qs)
visited_append visits ps qs before between after (xs, run) (ys, more) =
    (xs ++ ys, visit_run_append visits ps qs xs ys before between after run more)

pub visited_push : {V A : Type 0} (visits : V → Operator → A → V → Type 0) (ps : Placed) (op : Operator) (at : ℕ) (outcome : A) (before between after : V) →
    Visited visits before between ps → visits between op outcome after → Visited visits before after (ps ++ (op, at) ∷ [])
visited_push visits ps op at outcome before between after run visit =
    visited_append visits ps ((op, at) ∷ []) before between after run (outcome ∷ [], (outcome, [], after, refl, visit, (refl, refl)))

scalar_first : (b : Bool) (p : Operator × ℕ) (xs ps : Placed) → cond b [] (p ∷ xs) ≡ p ∷ ps → (b ≡ false) × (xs ≡ ps)
scalar_first true p xs ps e = absurd (cc e)
scalar_first false p xs ps e = (refl, cc e)

pub scalar_append : (ps qs : Placed) → IsScalar ps → scalar_beginning (ps ++ qs) ≡ ps ++ scalar_beginning qs
scalar_append [] qs h = refl
scalar_append (p ∷ ps) qs h =
    let first = scalar_first (is_simd p.0) p (scalar_beginning ps) ps h in
    ap (λ b. cond b [] (p ∷ scalar_beginning (ps ++ qs))) first.0 ∙ ap (λ (x : Placed). p ∷ x) (scalar_append ps qs first.1)

pub not_simd : (op : Operator) → (IsSimd op → ⊥) → is_simd op ≡ false
not_simd (operator.Simd op) none = absurd (none tt)
not_simd _ none = refl

pub simd_if : (op : Operator) → is_simd op ≡ true → IsSimd op
simd_if (operator.Simd op) e = tt
simd_if _ e = absurd (cc e)

pub not_simd_if : (op : Operator) → is_simd op ≡ false → IsSimd op → ⊥
not_simd_if (operator.Simd op) e is = cc e
not_simd_if _ e is = is

pub scalar_push : (ps : Placed) (op : Operator) (at : ℕ) → IsScalar ps → (IsSimd op → ⊥) → IsScalar (ps ++ (op, at) ∷ [])
scalar_push ps op at h none =
    scalar_append ps ((op, at) ∷ []) h ∙ ap (λ b. ps ++ cond b [] ((op, at) ∷ [])) (not_simd op none)

begin_first : (b : Bool) (p : Operator × ℕ) (xs ps : Placed) → IsBeginningOf xs ps → IsBeginningOf (cond b [] (p ∷ xs)) (p ∷ ps)
begin_first true p xs ps h = (p ∷ ps, refl)
begin_first false p xs ps h = (h.0, ap (λ (x : Placed). p ∷ x) h.1)

pub scalar_begins : (ps : Placed) → IsBeginningOf (scalar_beginning ps) ps
scalar_begins [] = ([], refl)
scalar_begins (p ∷ ps) = begin_first (is_simd p.0) p (scalar_beginning ps) ps (scalar_begins ps)

no_simd_in : (b : Bool) (p : Operator × ℕ) (xs before after : Placed) (q : Operator × ℕ) → is_simd p.0 ≡ b →
    ((before after : Placed) → xs ≡ before ++ q ∷ after → IsSimd q.0 → ⊥) → cond b [] (p ∷ xs) ≡ before ++ q ∷ after → IsSimd q.0 → ⊥
no_simd_in true p xs [] after q is rest e vector = absurd (cc e)
no_simd_in true p xs (r ∷ before) after q is rest e vector = absurd (cc e)
no_simd_in false p xs [] after q is rest e vector =
    let same : p ≡ q = cc e in
    not_simd_if q.0 (ap (λ (r : Operator × ℕ). is_simd r.0) (sym same) ∙ is) vector
no_simd_in false p xs (r ∷ before) after q is rest e vector = rest before after (cc e) vector

pub scalar_none : (ps : Placed) (q : Operator × ℕ) (before after : Placed) → scalar_beginning ps ≡ before ++ q ∷ after → IsSimd q.0 → ⊥
scalar_none [] q [] after e vector = absurd (cc e)
scalar_none [] q (r ∷ before) after e vector = absurd (cc e)
scalar_none (p ∷ ps) q before after e vector =
    no_simd_in (is_simd p.0) p (scalar_beginning ps) before after q refl (λ b a. scalar_none ps q b a) e vector

pub scalar_longest : (ps others : Placed) → IsBeginningOf others ps → IsScalar others → IsBeginningOf others (scalar_beginning ps)
scalar_longest ps others (more, e) h = (scalar_beginning more, ap scalar_beginning e ∙ scalar_append others more h)

-- ---- for each set of operators

pub set_visited_none : {V A : Type 0} (set : OperatorSet) (visits : V → Operator → A → V → Type 0) (v : V) → VisitedOf set visits v v []
set_visited_none with_simd visits v = ([], (refl, refl))
set_visited_none without_simd visits v = (([], (refl, refl)), refl)

pub set_visited_push : {V A : Type 0} (set : OperatorSet) (visits : V → Operator → A → V → Type 0) (ps : Placed) (op : Operator) (at : ℕ) (outcome : A) (before between after : V)
    (f : WasmFeatures) (kind : FrameKind) (text : List ℕ) → VisitedOf set visits before between ps → EncodesOf set f kind text op → visits between op outcome after →
    VisitedOf set visits before after (ps ++ (op, at) ∷ [])
set_visited_push with_simd visits ps op at outcome before between after f kind text run encodes visit = visited_push visits ps op at outcome before between after run visit
set_visited_push without_simd visits ps op at outcome before between after f kind text (run, scalar) encodes visit =
    (visited_push visits ps op at outcome before between after run visit, scalar_push ps op at scalar encodes.1)
