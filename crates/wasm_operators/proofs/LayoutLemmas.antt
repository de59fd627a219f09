-- Encoded lists.
use Rattle.std.proofs.Common.{◌≡◌, ℕ, zero, suc, ◌+◌, ◌<◌, ◌≤◌, List, [], ◌∷◌, ◌++◌, length, replicate, Option, Some, None, refl, sym, subst, ap, ◌∙◌, append_assoc, length-append, arith, inl, inr}
use Rattle.std.proofs.lemmas.Bool.{cases_lt}
use Rattle.std.proofs.lemmas.List.{append-nil, map-append}
use Rattle.std.specs.Option.{option_and_then}
use Rattle.wasm_below.specs.declared.features.WasmFeatures.{WasmFeatures}
use Rattle.wasm_below.specs.Source.{Source}
use Rattle.wasm_below.proofs.TakesLemmas.{same_rest}
use Rattle.wasm_grammar.specs.declared.frame_kind.FrameKind.{FrameKind}
use Rattle.wasm_grammar.specs.Role.{ends}
use Rattle.wasm_grammar.specs.Frames.{frames_after, frames_along}
use Rattle.wasm_grammar.specs.Beginning.{IsWalk, BeginsWalk}
use Rattle.wasm_grammar.specs.OpenPath.{OpenPath}
use Rattle.wasm_grammar.proofs.Paths.{run_path}
use Rattle.wasm_grammar.proofs.Runs.{bound, ends_complete, frames_along-append, path_runs_on}
use Rattle.wasm_instr.specs.declared.operator.Operator.{Operator}
use Rattle.wasm_instr.specs.declared.operator.Operator.TheVariants as operator
use Rattle.wasm_instr.specs.Encoding.{EncodesOpcode, EncodesOperator}
use Rattle.wasm_instr.specs.Roles.{role_of, roles_of}
use Rattle.wasm_instr.specs.Row.{prefix_of, opcode_of}
use Rattle.wasm_instr.proofs.OperatorPrefixCode.{operator_prefix_code}
use Rattle.wasm_operators.specs.Expression.{Placed, OfPlaced, operators, LaidOut, AreEncoded, Begins, Longest, IsBeginningOf, IsPrefixAfter}

pub roles_of-append : (xs ys : List Operator) → roles_of (xs ++ ys) ≡ roles_of xs ++ roles_of ys
roles_of-append [] ys = refl
roles_of-append (x ∷ xs) ys = ap (λ r. role_of x ∷ r) (roles_of-append xs ys)

pub operators-append : (ps qs : Placed) → operators (ps ++ qs) ≡ operators ps ++ operators qs
operators-append ps qs = map-append (λ (p : Operator × ℕ). p.0) ps qs

pub laid_encoded : (f : WasmFeatures) (offset : ℕ) (ps : Placed) (bytes : List ℕ) → LaidOut f offset bytes ps → AreEncoded f (operators ps)
laid_encoded f offset [] bytes l = tt
laid_encoded f offset (p ∷ ps) bytes (eo, beginning, more, eb, s, l) = ((beginning, s), laid_encoded f (offset + length beginning) ps more l)

pub both_encoded : (f : WasmFeatures) (xs ys : List Operator) → AreEncoded f xs → AreEncoded f ys → AreEncoded f (xs ++ ys)
both_encoded f [] ys p q = q
both_encoded f (x ∷ xs) ys p q = (p.0, both_encoded f xs ys p.1 q)

ends_encoded : (f : WasmFeatures) (n : ℕ) → AreEncoded f (replicate n operator.End)
ends_encoded f zero = tt
ends_encoded f (suc n) = ((0x0b ∷ [], record { head = 0x0b ∷ []; after = []; parts = refl; code = refl; immediates = refl; enabled = tt }), ends_encoded f n)

pub roles_of-ends : (n : ℕ) → roles_of (replicate n operator.End) ≡ replicate n ends
roles_of-ends zero = refl
roles_of-ends (suc n) = ap (λ roles. ends ∷ roles) (roles_of-ends n)

pub path_begins : (f : WasmFeatures) (ops : List Operator) (frames : List FrameKind) → OpenPath (roles_of ops) frames → AreEncoded f ops → Begins f ops
path_begins f ops frames path encodes =
    let n = length frames in
    let whole : IsWalk (roles_of ops ++ replicate n ends) = ends_complete (roles_of ops) frames (run_path frames (roles_of ops) path) in
    let same : roles_of ops ++ replicate n ends ≡ roles_of (ops ++ replicate n operator.End) = ap (λ r. roles_of ops ++ r) (sym (roles_of-ends n)) ∙
    sym (roles_of-append ops (replicate n operator.End)) in
    (replicate n operator.End, subst IsWalk same whole, both_encoded f ops (replicate n operator.End) encodes (ends_encoded f n))

pub begins_walk : (f : WasmFeatures) (ops : List Operator) → Begins f ops → BeginsWalk (roles_of ops)
begins_walk f ops (more, (tree, e), encodes) = (roles_of more, tree, sym (roles_of-append ops more) ∙ e)

-- What follows ps in a longer list.
pub record GoesOn (f : WasmFeatures) (ps qs : Placed) (after : List ℕ) : Type 0 where
  pub next : Operator × ℕ
  pub others : Placed
  pub text : List ℕ
  pub more : List ℕ
  pub parts : qs ≡ ps ++ next ∷ others
  pub bytes : after ≡ text ++ more
  pub encodes : EncodesOperator f text next.0

pub same_place : (p q : Operator × ℕ) → p.0 ≡ q.0 → p.1 ≡ q.1 → p ≡ q
same_place p q e d = ap (λ (o : Operator). let r : Operator × ℕ = (o, p.1) in r) e ∙ ap (λ (n : ℕ). let r : Operator × ℕ = (q.0, n) in r) d

pub laid_goes_on : (f : WasmFeatures) (offset : ℕ) (ps qs : Placed) (a b x y : List ℕ) → LaidOut f offset a ps → LaidOut f offset b qs → a ++ x ≡ b ++ y →
    length ps < length qs → GoesOn f ps qs x
laid_goes_on f offset [] [] a b x y l m e lt = absurd (omega arith)
laid_goes_on f offset [] (q ∷ qs) a b x y l (eo, text, more, eb, s, m) e lt =
    record {
      next = q;
      others = qs;
      text = text;
      more = more ++ y;
      parts = refl;
      bytes = ap (λ z. z ++ x) (sym l) ∙ e ∙ ap (λ z. z ++ y) eb ∙
          append_assoc text more y;
      encodes = s;
    }
laid_goes_on f offset (p ∷ ps) [] a b x y l m e lt = absurd (omega arith)
laid_goes_on f offset (p ∷ ps) (q ∷ qs) a b x y (eo, t, r, ea, s, l) (eo2, t2, r2, eb, s2, m) e lt =
    let whole : t ++ (r ++ x) ≡ t2 ++ (r2 ++ y) = sym (append_assoc t r x) ∙ ap (λ z. z ++ x) (sym ea) ∙ e ∙ ap (λ z. z ++ y) eb ∙ append_assoc t2 r2 y in
    let h = operator_prefix_code f p.0 q.0 t t2 (r ++ x) (r2 ++ y) s s2 whole in
    let tail : r ++ x ≡ r2 ++ y = same_rest t t2 (r ++ x) (r2 ++ y) h.1 whole in
    let same : p ≡ q = same_place p q h.0 (eo ∙ sym eo2) in
    let m2 : LaidOut f (offset + length t) r2 qs = subst (λ z. LaidOut f (offset + length z) r2 qs) (sym h.1) m in
    let g = laid_goes_on f (offset + length t) ps qs r r2 x y l m2 tail (omega arith) in
    record { next = g.next; others = g.others; text = g.text; more = g.more; parts = cc (same, g.parts); bytes = g.bytes; encodes = g.encodes }

opcode_some : (prefix : Option ℕ) (code : ℕ) (head : List ℕ) → EncodesOpcode prefix head code → 1 ≤ length head
opcode_some None code head h = let n : length head ≡ 1 = ap length h in omega (arith, n)
opcode_some (Some prefix) code head h = let n : length head ≡ length (prefix ∷ h.0) = ap length h.1 in omega (arith, n)

pub encoded_some : (f : WasmFeatures) (op : Operator) (text : List ℕ) → EncodesOperator f text op → 1 ≤ length text
encoded_some f op text s =
    let c = opcode_some (prefix_of op) (opcode_of op) s.head s.code in
    let n : length text ≡ length s.head + length s.after = ap length s.parts ∙ length-append s.head s.after in
    omega (arith, c, n)

none_some : (text more : List ℕ) → [] ≡ text ++ more → 1 ≤ length text → ⊥
none_some [] more e some = omega (arith, some)
none_some (b ∷ text) more e some = absurd (cc e)

pub not_empty : (f : WasmFeatures) (op : Operator) (text more : List ℕ) → EncodesOperator f text op → [] ≡ text ++ more → ⊥
not_empty f op text more s e = none_some text more e (encoded_some f op text s)

pub laid_no_longer : (f : WasmFeatures) (offset : ℕ) (ps qs : Placed) (a b y : List ℕ) → LaidOut f offset a ps → LaidOut f offset b qs → a ++ [] ≡ b ++ y →
    length qs ≤ length ps
laid_no_longer f offset ps qs a b y l m e =
    elim (cases_lt (length ps) (length qs)) [
      | inl lt ↦ (let g = laid_goes_on f offset ps qs a b [] y l m e lt in absurd (not_empty f g.next.0 g.text g.more g.encodes g.bytes))
      | inr le ↦ le
    ]

pub laid_same : (f : WasmFeatures) (offset : ℕ) (ps qs : Placed) (a b x y : List ℕ) → LaidOut f offset a ps → LaidOut f offset b qs → a ++ x ≡ b ++ y →
    length ps ≡ length qs → (ps ≡ qs) × (a ≡ b) × (x ≡ y)
laid_same f offset [] [] a b x y l m e n = (refl, l ∙ sym m, ap (λ z. z ++ x) (sym l) ∙ e ∙ ap (λ z. z ++ y) m)
laid_same f offset [] (q ∷ qs) a b x y l m e n = absurd (cc n)
laid_same f offset (p ∷ ps) [] a b x y l m e n = absurd (cc n)
laid_same f offset (p ∷ ps) (q ∷ qs) a b x y (eo, t, r, ea, s, l) (eo2, t2, r2, eb, s2, m) e n =
    let whole : t ++ (r ++ x) ≡ t2 ++ (r2 ++ y) = sym (append_assoc t r x) ∙ ap (λ z. z ++ x) (sym ea) ∙ e ∙ ap (λ z. z ++ y) eb ∙ append_assoc t2 r2 y in
    let h = operator_prefix_code f p.0 q.0 t t2 (r ++ x) (r2 ++ y) s s2 whole in
    let tail : r ++ x ≡ r2 ++ y = same_rest t t2 (r ++ x) (r2 ++ y) h.1 whole in
    let same : p ≡ q = same_place p q h.0 (eo ∙ sym eo2) in
    let m2 : LaidOut f (offset + length t) r2 qs = subst (λ z. LaidOut f (offset + length z) r2 qs) (sym h.1) m in
    let g = laid_same f (offset + length t) ps qs r r2 x y l m2 tail (cc n) in
    (cc (same, g.0), ea ∙ cc (h.1, g.1) ∙ sym eb, g.2)

pub laid_append : (f : WasmFeatures) (offset : ℕ) (ps qs : Placed) (a b : List ℕ) → LaidOut f offset a ps → LaidOut f (offset + length a) b qs →
    LaidOut f offset (a ++ b) (ps ++ qs)
laid_append f offset [] qs a b l m =
    let n : offset + length a ≡ offset = let z : length a ≡ 0 = ap length l in omega (arith, z) in
    subst (λ z. LaidOut f offset (z ++ b) qs) (sym l) (subst (λ n. LaidOut f n b qs) n m)
laid_append f offset (p ∷ ps) qs a b (eo, text, more, ea, s, l) m =
    let n : offset + length a ≡ offset + length text + length more = let z : length a ≡ length text + length more = ap length ea ∙ length-append text more in
    omega (arith, z) in (
      eo,
      text,
      more ++ b,
      ap (λ z. z ++ b) ea ∙ append_assoc text more b,
      s,
      laid_append f (offset + length text) ps qs more b l (subst (λ n. LaidOut f n b qs) n m),
    )

pub laid_beginning : (f : WasmFeatures) (offset : ℕ) (ps qs : Placed) (a b x y : List ℕ) → LaidOut f offset a ps → LaidOut f offset b qs → a ++ x ≡ b ++ y →
    length ps ≤ length qs → IsBeginningOf ps qs
laid_beginning f offset ps qs a b x y l m e le =
    elim (cases_lt (length ps) (length qs)) [
      | inl lt ↦ (let g = laid_goes_on f offset ps qs a b x y l m e lt in (g.next ∷ g.others, g.parts))
      | inr ge ↦ ([], sym (laid_same f offset ps qs a b x y l m e (omega arith)).0 ∙ sym (append-nil ps))
    ]

pub one_longest : (Kept : OfPlaced) (before : List Operator) (s : Source) (first second : Placed) → Longest (IsPrefixAfter before s) Kept first →
    Longest (IsPrefixAfter before s) Kept second → first ≡ second
one_longest Kept before s first second p q =
    let le = p.longest second q.beginning q.kept in
    let ge = q.longest first p.beginning p.kept in
    (laid_same s.features s.offset first second p.beginning.beginning q.beginning.beginning p.beginning.more q.beginning.more p.beginning.laid q.beginning.laid
    (sym p.beginning.parts ∙ q.beginning.parts) (omega arith)).0

pub next_allowed : (f : WasmFeatures) (frames there end : List FrameKind) (placed others : Placed) (after : List ℕ) →
    frames_along frames (roles_of (operators placed)) ≡ Some there → frames_along frames (roles_of (operators others)) ≡ Some end →
    (g : GoesOn f placed others after) → frames_after there (role_of g.next.0) ≡ None → ⊥
next_allowed f frames there end placed others after e d g none =
    let next = role_of g.next.0 ∷ roles_of (operators g.others) in
    let roles : roles_of (operators others) ≡ roles_of (operators placed) ++ next = ap (λ z. roles_of (operators z)) g.parts ∙
    ap roles_of (operators-append placed (g.next ∷ g.others)) ∙ roles_of-append (operators placed) (g.next.0 ∷ operators g.others) in
    let along : frames_along there next ≡ Some end = sym (ap (option_and_then (λ frames. frames_along frames next)) e) ∙
    sym (frames_along-append frames (roles_of (operators placed)) next) ∙ sym (ap (frames_along frames) roles) ∙ d in
    let b = bound (λ frames. frames_along frames (roles_of (operators g.others))) (frames_after there (role_of g.next.0)) end along in
    cc (none, b.1)

pub goes_allowed : (before : List Operator) (f : WasmFeatures) (ps qs : Placed) (after : List ℕ) (frames : List FrameKind) →
    OpenPath (roles_of (before ++ operators ps)) frames → BeginsWalk (roles_of (before ++ operators qs)) → (g : GoesOn f ps qs after) →
    frames_after frames (role_of g.next.0) ≡ None → ⊥
goes_allowed before f ps qs after frames path begins g none =
    let next = role_of g.next.0 ∷ roles_of (operators g.others) in
    let split : before ++ operators qs ≡ (before ++ operators ps) ++ g.next.0 ∷ operators g.others = ap (λ z. before ++ operators z) g.parts ∙
    ap (λ z. before ++ z) (operators-append ps (g.next ∷ g.others)) ∙ sym (append_assoc before (operators ps) (g.next.0 ∷ operators g.others)) in
    let roles : roles_of (before ++ operators qs) ≡ roles_of (before ++ operators ps) ++ next = ap roles_of split ∙
    roles_of-append (before ++ operators ps) (g.next.0 ∷ operators g.others) in
    let on = path_runs_on frames (roles_of (before ++ operators ps)) next path (subst BeginsWalk roles begins) in
    let b = bound (λ frames. frames_along frames (roles_of (operators g.others))) (frames_after frames (role_of g.next.0)) on.0 on.1 in
    cc (none, b.1)

not_longer_whole : (before : List Operator) (f : WasmFeatures) (offset : ℕ) (ps qs : Placed) (a b x y : List ℕ) → LaidOut f offset a ps →
    LaidOut f offset b qs →
    IsWalk (roles_of (before ++ operators ps)) → IsWalk (roles_of (before ++ operators qs)) → a ++ x ≡ b ++ y → length qs ≤ length ps
not_longer_whole before f offset ps qs a b x y l m walk (tree, walked) e =
    elim (cases_lt (length ps) (length qs)) [
      | inl lt ↦ absurd (goes_allowed before f ps qs x [] walk ([], tree, append-nil (roles_of (before ++ operators qs)) ∙ walked)
          (laid_goes_on f offset ps qs a b x y l m e lt) refl)
      | inr le ↦ le
    ]

pub one_whole : (before : List Operator) (f : WasmFeatures) (offset : ℕ) (ps qs : Placed) (a b x y : List ℕ) → LaidOut f offset a ps → LaidOut f offset b qs →
    IsWalk (roles_of (before ++ operators ps)) → IsWalk (roles_of (before ++ operators qs)) → a ++ x ≡ b ++ y → (ps ≡ qs) × (a ≡ b)
one_whole before f offset ps qs a b x y l m walk others e =
    let le = not_longer_whole before f offset ps qs a b x y l m walk others e in
    let ge = not_longer_whole before f offset qs ps b a y x m l others walk (sym e) in
    let same = laid_same f offset ps qs a b x y l m e (omega arith) in
    (same.0, same.1)
