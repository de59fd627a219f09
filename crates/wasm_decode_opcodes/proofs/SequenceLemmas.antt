-- Sequences whose reader goes back only at the end.
use Rattle.std.proofs.Common.{◌≡◌, ℕ, ◌+◌, ◌≤◌, inl, inr, List, [], ◌∷◌, ◌++◌, length, length-append, drop, Result, Ok, Err, map, refl, sym, subst, ap, ◌∙◌, append_assoc, arith}
use Rattle.std.proofs.lemmas.List.{append-nil, drop-drop}
use Rattle.std.proofs.Math.Seq.{drop-append_seam}
use Rattle.wasm_below.specs.declared.error.Error.{Error}
use Rattle.wasm_below.specs.declared.features.WasmFeatures.{WasmFeatures}
use Rattle.wasm_below.specs.declared.message.Message.{Message}
use Rattle.wasm_below.specs.Source.{Reader, rest, at_position, Takes, NoPrefix, IsAhead, HasRead, Reads, ReadsFrom}
use Rattle.wasm_below.proofs.TakesLemmas.{takes_then, same_rest}
use Rattle.wasm_imm.specs.Orderings.{EncodesFence, FenceFault}
use Rattle.wasm_imm.specs.Immediate.{Immediate, Kind, is_fence_order, kind_of, EncodesImmediates}
use Rattle.wasm_imm.proofs.ImmediatePrefixCodes.{immediates_prefix_code}
use Rattle.wasm_decode_opcodes.specs.Decoding.{IsRefusedKinds, ReadsKinds, StaysAhead}
use Rattle.wasm_decode_opcodes.specs.Kinds.{EncodesKinds}
use Rattle.wasm_decode_opcodes.specs.OperatorFaults.{KindFault, KindsFault}
use Rattle.wasm_decode_opcodes.proofs.KindLemmas.{OfKind, RefusesKinds, first_refused, fence_refused, moved_features, moved_start}

map_append : (is js : List Immediate) → map kind_of (is ++ js) ≡ map kind_of is ++ map kind_of js
map_append [] js = refl
map_append (i ∷ is) js = ap (λ z. kind_of i ∷ z) (map_append is js)

encoded_then : (f : WasmFeatures) (is js : List Immediate) (t u : List ℕ) → EncodesImmediates f t is → EncodesImmediates f u js → EncodesImmediates f (t ++ u) (is ++ js)
encoded_then f [] js t u e h = subst (λ z. EncodesImmediates f z js) (sym (ap (λ z. z ++ u) e)) h
encoded_then f (i ∷ is) js t u (a, b, parts, one, more) h =
    (a, b ++ u, ap (λ z. z ++ u) parts ∙ append_assoc a b u, one, encoded_then f is js b u more h)

pub kinds_then : (f : WasmFeatures) (ks ls : List Kind) (is js : List Immediate) (t u : List ℕ) → EncodesKinds f ks t is → EncodesKinds f ls u js →
    EncodesKinds f (ks ++ ls) (t ++ u) (is ++ js)
kinds_then f ks ls is js t u p q =
    (map_append is js ∙ ap (λ z. z ++ map kind_of js) p.0 ∙ ap (λ z. ks ++ z) q.0, encoded_then f is js t u p.1 q.1)

-- The two parts of a sequence.
pub record Split (f : WasmFeatures) (ks ls : List Kind) (text : List ℕ) (is : List Immediate) : Type 0 where
  pub before : List ℕ
  pub after : List ℕ
  pub first : List Immediate
  pub second : List Immediate
  pub parts : text ≡ before ++ after
  pub both : is ≡ first ++ second
  pub is_first : EncodesKinds f ks before first
  pub is_second : EncodesKinds f ls after second

pub kinds_split : (f : WasmFeatures) (ks ls : List Kind) (text : List ℕ) (is : List Immediate) → EncodesKinds f (ks ++ ls) text is → Split f ks ls text is
kinds_split f [] ls text is h =
    record { before = []; after = text; first = []; second = is; parts = refl; both = refl; is_first = (refl, refl); is_second = h }
kinds_split f (k ∷ ks) ls text [] h = absurd (cc h.0)
kinds_split f (k ∷ ks) ls text (i ∷ is) (e, (a, b, parts, one, more)) =
    let same : kind_of i ≡ k = cc e in
    let left : map kind_of is ≡ ks ++ ls = cc e in
    let s = kinds_split f ks ls b is (left, more) in
    record {
      before = a ++ s.before;
      after = s.after;
      first = i ∷ s.first;
      second = s.second;
      parts = parts ∙ ap (λ z. a ++ z) s.parts ∙ sym (append_assoc a s.before s.after);
      both = ap (λ z. i ∷ z) s.both;
      is_first = (ap (λ z. kind_of i ∷ z) s.is_first.0 ∙ ap (λ z. z ∷ ks) same, (a, s.before, refl, one, s.is_first.1));
      is_second = s.is_second;
    }

-- if the first part does not follow, the sequence does not
none_first : (f : WasmFeatures) (ks ls : List Kind) (bytes : List ℕ) → NoPrefix (EncodesKinds f ks) bytes → NoPrefix (EncodesKinds f (ks ++ ls)) bytes
none_first f ks ls bytes none text left is h eq =
    let s = kinds_split f ks ls text is h in
    none s.before (s.after ++ left) s.first s.is_first (eq ∙ ap (λ z. z ++ left) s.parts ∙ append_assoc s.before s.after left)

-- if the second part does not follow the first, the sequence does not
none_second : (f : WasmFeatures) (ks ls : List Kind) (is : List Immediate) (text bytes : List ℕ) → EncodesKinds f ks text is → NoPrefix (EncodesKinds f ls) bytes →
    NoPrefix (EncodesKinds f (ks ++ ls)) (text ++ bytes)
none_second f ks ls is text bytes p none whole left js h eq =
    let s = kinds_split f ks ls whole js h in
    let same : text ++ bytes ≡ s.before ++ (s.after ++ left) = eq ∙ ap (λ z. z ++ left) s.parts ∙ append_assoc s.before s.after left in
    let c = immediates_prefix_code f is s.first text s.before bytes (s.after ++ left) (p.0 ∙ sym s.is_first.0) p.1 s.is_first.1 same in
    none s.after left s.second s.is_second (same_rest text s.before bytes (s.after ++ left) c.1 same)

takes_apart : (old mid : Reader) (first more : List ℕ) → Takes old mid (first ++ more) → (now : Reader) × Takes old now first × Takes now mid more
takes_apart old mid first more t =
    let now = at_position old (old.position + length first) in
    let parts : rest old ≡ first ++ (more ++ rest mid) = t.parts ∙ append_assoc first more (rest mid) in
    let left : rest now ≡ more ++ rest mid = sym (drop-drop (length first) old.position old.buffer) ∙ ap (drop (length first)) parts ∙ drop-append_seam first (more ++ rest mid) in
    let size : length (first ++ more) ≡ length first + length more = length-append first more in (
      now,
      record { moved = refl; parts = parts ∙ ap (λ z. first ++ z) (sym left) },
      record { moved = t.moved ∙ ap (at_position old) (omega arith); parts = left },
    )

fault_first : (f : WasmFeatures) (start : ℕ) (ks ls : List Kind) (m : Message) (r : Reader) (offset : ℕ) → KindsFault f start ks m r offset →
    KindsFault f start (ks ++ ls) m r offset
fault_first f start [] ls m r offset h = absurd h
fault_first f start (k ∷ ks) ls m r offset (inl h) = inl h
fault_first f start (k ∷ ks) ls m r offset (inr (i, now, read, later)) = inr (i, now, read, fault_first f start ks ls m now offset later)

fault_second : (f : WasmFeatures) (start : ℕ) (ks ls : List Kind) (is : List Immediate) (m : Message) (old mid : Reader) (offset : ℕ) (text : List ℕ) →
    EncodesKinds f ks text is → Takes old mid text → KindsFault f start ls m mid offset → KindsFault f start (ks ++ ls) m old offset
fault_second f start [] ls [] m old mid offset text (a, p) t fault =
    let same : mid ≡ old = t.moved ∙ ap (at_position old) (let n : length text ≡ 0 = ap length p in omega arith) in
    subst (λ r. KindsFault f start ls m r offset) same fault
fault_second f start [] ls (i ∷ is) m old mid offset text (a, p) t fault = absurd (cc a)
fault_second f start (k ∷ ks) ls [] m old mid offset text (a, p) t fault = absurd (cc a)
fault_second f start (k ∷ ks) ls (i ∷ is) m old mid offset text (a, (first, more, parts, one, others)) t fault =
    let s = takes_apart old mid first more (subst (Takes old mid) parts t) in
    inr (i, s.0, (first, (cc a, one), s.1), fault_second f start ks ls is m s.0 mid offset more (cc a, others) s.2 fault)

-- `ReadsKinds` of a failed call that does not go back.
abbrev pub FailsKinds : List Kind → (Reader → Type 0) → ℕ → Error → Reader → Reader → Type 0
FailsKinds ks Memory start e old new = StaysAhead start old new × IsRefusedKinds ks Memory start e old

stays : (start : ℕ) (old new : Reader) → new ≡ old → StaysAhead start old new
stays start old new same =
    let position : new.position ≡ old.position = ap (λ (r : Reader). r.position) same in
    (same ∙ ap (at_position old) (sym position), omega (arith, position))

pub one_failed : {X : Type 0} (P : List ℕ → X → Type 0) (k : Kind) (immediate : X → Immediate) (start : ℕ) (e : Error) (old new : Reader) → OfKind P old.features k immediate →
    start ≤ old.position → Reads P (KindFault old.features (old.start + start) k) (Err e) old new → FailsKinds (k ∷ []) (λ r. ⊥) start e old new
one_failed P k immediate start e old new o begun h =
    (stays start old new h.0, (first_refused P k [] immediate (λ r. ⊥) start e old new (at_position new start) o begun h refl).1)

-- a call that reads one immediate
pub one_read : {X : Type 0} (P : List ℕ → X → Type 0) (k : Kind) (immediate : X → Immediate) (start : ℕ) (result : Result X Error) (old new : Reader) →
    OfKind P old.features k immediate → start ≤ old.position → Reads P (KindFault old.features (old.start + start) k) result old new →
    ReadsKinds (k ∷ []) (λ x. immediate x ∷ []) (λ r. ⊥) StaysAhead start result old new
one_read P k immediate start (Ok x) old new o begun (text, p, t) =
    (text, (ap (λ z. z ∷ []) (o.kind x), (text, [], sym (append-nil text), o.encodes text x p, refl)), t)
one_read P k immediate start (Err e) old new o begun h = one_failed P k immediate start e old new o begun h

pub fence_failed : (start begun : ℕ) (e : Error) (old new : Reader) → begun ≡ old.start + start → start ≤ old.position →
    ReadsFrom begun (EncodesFence old.features) (FenceFault old.features begun) (Err e) old new → FailsKinds (is_fence_order ∷ []) (λ r. ⊥) start e old new
fence_failed start begun e old new at before h = (stays start old new h.0, fence_refused start begun e old new at before h)

pub both_read : (ks ls : List Kind) (is js : List Immediate) (old mid new : Reader) → HasRead (EncodesKinds old.features ks) is old mid →
    HasRead (EncodesKinds mid.features ls) js mid new → HasRead (EncodesKinds old.features (ks ++ ls)) (is ++ js) old new
both_read ks ls is js old mid new (t, p, a) (u, q, b) = (
  t ++ u,
  kinds_then old.features ks ls is js t u p (subst (λ z. EncodesKinds z ls u js) (moved_features old mid t a) q),
  takes_then old mid new t u a b,
)

pub first_failed : (ks ls : List Kind) (start : ℕ) (e : Error) (old new : Reader) → FailsKinds ks (λ r. ⊥) start e old new → FailsKinds (ks ++ ls) (λ r. ⊥) start e old new
first_failed ks ls start e old new (ahead, h) = (
  ahead,
  record {
    refuses = λ more follow. none_first old.features ks ls (rest old ++ more) (h.refuses more follow);
    ahead = h.ahead;
    fault = λ some. fault_first old.features (old.start + start) ks ls e.message old e.offset (h.fault some);
    memory = h.memory;
  },
)

second_refused : (ks ls : List Kind) (is : List Immediate) (start : ℕ) (e : Error) (old mid : Reader) (text : List ℕ) → EncodesKinds old.features ks text is →
    Takes old mid text → IsRefusedKinds ls (λ r. ⊥) start e mid → IsRefusedKinds (ks ++ ls) (λ r. ⊥) start e old
second_refused ks ls is start e old mid text p t h =
    let features = moved_features old mid text t in
    let starts = moved_start old mid text t in
    record {
      refuses = λ more follow. subst (NoPrefix (EncodesKinds old.features (ks ++ ls))) (sym (ap (λ z. z ++ more) t.parts ∙ append_assoc text (rest mid) more))
          (none_second old.features ks ls is text (rest mid ++ more) p (subst (λ z. NoPrefix (EncodesKinds z ls) (rest mid ++ more)) features (h.refuses more follow)));
      ahead = subst (λ (r : Reader). IsAhead r e.offset) (ap (λ (r : Reader). at_position r start) t.moved) h.ahead;
      fault = λ some. fault_second old.features (old.start + start) ks ls is e.message old mid e.offset text p t
          (subst (λ z. KindsFault z (old.start + start) ls e.message mid e.offset) features
          (subst (λ z. KindsFault mid.features (z + start) ls e.message mid e.offset) starts (h.fault some)));
      memory = λ m. absurd (h.memory m).0;
    }

pub second_failed : (ks ls : List Kind) (is : List Immediate) (start : ℕ) (e : Error) (old mid new : Reader) → HasRead (EncodesKinds old.features ks) is old mid →
    FailsKinds ls (λ r. ⊥) start e mid new → FailsKinds (ks ++ ls) (λ r. ⊥) start e old new
second_failed ks ls is start e old mid new (text, p, t) ((moved, le), h) =
    let position : mid.position ≡ old.position + length text = ap (λ (r : Reader). r.position) t.moved in
    ((moved ∙ ap (λ (r : Reader). at_position r new.position) t.moved, omega (arith, le, position)), second_refused ks ls is start e old mid text p t h)

pub gone_back : (ks : List Kind) (Memory : Reader → Type 0) (start : ℕ) (e : Error) (old mid new : Reader) → FailsKinds ks Memory start e old mid → new ≡ at_position mid start →
    RefusesKinds ks Memory start e old new
gone_back ks Memory start e old mid new (ahead, h) back = (back ∙ ap (λ (r : Reader). at_position r start) ahead.0, h)
