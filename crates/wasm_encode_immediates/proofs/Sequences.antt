-- Immediates one after another.
use Rattle.std.proofs.Common.{◌≡◌, ℕ, ◌≤◌, inl, inr, List, [], ◌∷◌, ◌++◌, length, Result, Ok, Err, refl, sym, ap, subst, ◌∙◌, append_assoc, append-nil, arith, length-append}
use Rattle.wasm_below.specs.declared.features.WasmFeatures.{WasmFeatures}
use Rattle.wasm_imm.specs.declared.select.Select.TheVariants as select
use Rattle.wasm_imm.specs.Immediate.{Immediate, unsigned_32, signed_32, signed_64, float_32, float_64, vector, one_lane, sixteen_lanes, memory_argument, memory_index, table_index_32, order, fence_order, heap_type, cast, block_type, branch_table, select_types, try_clauses, resume_clauses, EncodesImmediate, EncodesImmediates}
use Rattle.wasm_encode_numbers.specs.Appended.{Appends}
use Rattle.wasm_encode_immediates.specs.declared.unwritable.Unwritable.{Unwritable}
use Rattle.wasm_encode_immediates.specs.declared.unwritable.Unwritable.TheVariants as why
use Rattle.wasm_encode_immediates.specs.Reasons.{HasReason, HaveReason, HoldList}
use Rattle.wasm_encode_immediates.specs.Written.{FailsToWrite, WritesText}

encoded_then : (f : WasmFeatures) (is js : List Immediate) (t u : List ℕ) → EncodesImmediates f t is → EncodesImmediates f u js → EncodesImmediates f (t ++ u) (is ++ js)
encoded_then f [] js t u e h = subst (λ z. EncodesImmediates f z js) (sym (ap (λ z. z ++ u) e)) h
encoded_then f (i ∷ is) js t u (a, b, parts, one, more) h =
    (a, b ++ u, ap (λ z. z ++ u) parts ∙ append_assoc a b u, one, encoded_then f is js b u more h)

-- The two parts of a sequence.
record Apart (f : WasmFeatures) (is js : List Immediate) (text : List ℕ) : Type 0 where
  before : List ℕ
  after : List ℕ
  parts : text ≡ before ++ after
  first : EncodesImmediates f before is
  second : EncodesImmediates f after js

encoded_apart : (f : WasmFeatures) (is js : List Immediate) (text : List ℕ) → EncodesImmediates f text (is ++ js) → Apart f is js text
encoded_apart f [] js text p = record { before = []; after = text; parts = refl; first = refl; second = p }
encoded_apart f (i ∷ is) js text (a, b, e, one, more) =
    let s = encoded_apart f is js b more in
    record {
      before = a ++ s.before;
      after = s.after;
      parts = e ∙ ap (λ z. a ++ z) s.parts ∙ sym (append_assoc a s.before s.after);
      first = (a, s.before, refl, one, s.first);
      second = s.second;
    }

reason_first : (f : WasmFeatures) (is js : List Immediate) (e : Unwritable) → HaveReason f is e → HaveReason f (is ++ js) e
reason_first f [] js e r = absurd r
reason_first f (i ∷ is) js e (inl r) = inl r
reason_first f (i ∷ is) js e (inr r) = inr (reason_first f is js e r)

reason_second : (f : WasmFeatures) (is js : List Immediate) (e : Unwritable) → HaveReason f js e → HaveReason f (is ++ js) e
reason_second f [] js e r = r
reason_second f (i ∷ is) js e r = inr (reason_second f is js e r)

both_appended : (f : WasmFeatures) (is js : List Immediate) (old mid new : List ℕ) → Appends (EncodesImmediates f) is old mid → Appends (EncodesImmediates f) js mid new →
    Appends (EncodesImmediates f) (is ++ js) old new
both_appended f is js old mid new a b =
    record {
      text = a.text ++ b.text;
      appended = b.appended ∙ ap (λ z. z ++ b.text) a.appended ∙ append_assoc old a.text b.text;
      encodes = encoded_then f is js a.text b.text a.encodes b.encodes;
      shortest = λ other p.
          let s = encoded_apart f is js other p in
          let x = a.shortest s.before s.first in
          let y = b.shortest s.after s.second in
          let l = length-append a.text b.text in
          let m = ap length s.parts ∙ length-append s.before s.after in
          omega (arith, x, y, l, m);
    }

pub then_written : {Y : Type 0} (f : WasmFeatures) (is js : List Immediate) (r : Result Y Unwritable) (old mid new : List ℕ) → Appends (EncodesImmediates f) is old mid →
    WritesText (EncodesImmediates f) (HaveReason f) js r mid new → WritesText (EncodesImmediates f) (HaveReason f) (is ++ js) r old new
then_written f is js (Ok y) old mid new a b = both_appended f is js old mid new a b
then_written f is js (Err e) old mid new a b =
    record {
      part = a.text ++ b.part;
      appended = b.appended ∙ ap (λ z. z ++ b.part) a.appended ∙ append_assoc old a.text b.part;
      none = λ some text p. let s = encoded_apart f is js text p in b.none some s.after s.second;
      reason = reason_second f is js e b.reason;
    }

pub first_fails : (f : WasmFeatures) (is js : List Immediate) (e : Unwritable) (old new : List ℕ) → FailsToWrite (EncodesImmediates f) (HaveReason f) is e old new →
    FailsToWrite (EncodesImmediates f) (HaveReason f) (is ++ js) e old new
first_fails f is js e old new r =
    record {
      part = r.part;
      appended = r.appended;
      none = λ some text p. let s = encoded_apart f is js text p in r.none some s.before s.first;
      reason = reason_first f is js e r.reason;
    }

pub nothing_appended : (f : WasmFeatures) (old : List ℕ) → Appends (EncodesImmediates f) [] old old
nothing_appended f old = record { text = []; appended = sym (append-nil old); encodes = refl; shortest = λ other p. omega arith }

-- ---- one immediate

one_longer : (first more : List ℕ) (other : List ℕ) → other ≡ first ++ more → length first ≤ length other
one_longer first more other e =
    let l = ap length e ∙ length-append first more in
    omega (arith, l)

pub one_appended : {X : Type 0} (P : List ℕ → X → Type 0) (f : WasmFeatures) (x : X) (i : Immediate) (old new : List ℕ) → ((t : List ℕ) → P t x → EncodesImmediate f t i) →
    ((t : List ℕ) → EncodesImmediate f t i → P t x) → Appends P x old new → Appends (EncodesImmediates f) (i ∷ []) old new
one_appended P f x i old new to from a =
    record {
      text = a.text;
      appended = a.appended;
      encodes = (a.text, [], sym (append-nil a.text), to a.text a.encodes, refl);
      shortest = λ other (first, more, e, p, rest).
          let s = a.shortest first (from first p) in
          let l = one_longer first more other e in
          omega (arith, s, l);
    }

pub one_written : {X Y : Type 0} (P : List ℕ → X → Type 0) (Why : X → Unwritable → Type 0) (f : WasmFeatures) (x : X) (i : Immediate) (r : Result Y Unwritable) (old new : List ℕ) →
    ((t : List ℕ) → P t x → EncodesImmediate f t i) → ((t : List ℕ) → EncodesImmediate f t i → P t x) → ((e : Unwritable) → Why x e → HasReason f i e) → WritesText P Why x r old new →
    WritesText (EncodesImmediates f) (HaveReason f) (i ∷ []) r old new
one_written P Why f x i (Ok y) old new to from why w = one_appended P f x i old new to from w
one_written P Why f x i (Err e) old new to from why w =
    record {
      part = w.part;
      appended = w.appended;
      none = λ some text (first, more, parts, p, rest). w.none some first (from first p);
      reason = inl (why e w.reason);
    }

-- ---- when the vector cannot grow

own_reason : (f : WasmFeatures) (i : Immediate) (is : List Immediate) → HasReason f i why.OutOfMemory → HoldList (i ∷ is)
own_reason f (branch_table t) is r = tt
own_reason f (select_types (select.Multi tys)) is r = tt
own_reason f (select_types (select.One ty)) is r = absurd r
own_reason f (try_clauses t) is r = tt
own_reason f (resume_clauses t) is r = tt
own_reason f (memory_argument k max m) is r = absurd r
own_reason f (memory_index n) is r = absurd (cc r.0)
own_reason f (table_index_32 n) is r = absurd (cc r.0)
own_reason f (fence_order o) is r = absurd (cc r.0)
own_reason f (heap_type t) is r = absurd (cc r.0)
own_reason f (unsigned_32 n) is r = absurd r
own_reason f (signed_32 n) is r = absurd r
own_reason f (signed_64 n) is r = absurd r
own_reason f (float_32 n) is r = absurd r
own_reason f (float_64 n) is r = absurd r
own_reason f (vector v) is r = absurd r
own_reason f (one_lane n) is r = absurd r
own_reason f (sixteen_lanes v) is r = absurd r
own_reason f (order o) is r = absurd r
own_reason f (cast c) is r = absurd r
own_reason f (block_type t) is r = absurd r

later : (i : Immediate) (is : List Immediate) → HoldList is → HoldList (i ∷ is)
later (branch_table t) is h = tt
later (select_types (select.Multi tys)) is h = tt
later (select_types (select.One ty)) is h = h
later (try_clauses t) is h = tt
later (resume_clauses t) is h = tt
later (memory_argument k max m) is h = h
later (memory_index n) is h = h
later (table_index_32 n) is h = h
later (fence_order o) is h = h
later (heap_type t) is h = h
later (unsigned_32 n) is h = h
later (signed_32 n) is h = h
later (signed_64 n) is h = h
later (float_32 n) is h = h
later (float_64 n) is h = h
later (vector v) is h = h
later (one_lane n) is h = h
later (sixteen_lanes v) is h = h
later (order o) is h = h
later (cast c) is h = h
later (block_type t) is h = h

-- Only for a list of members the vector has to grow.
pub only_members : (f : WasmFeatures) (is : List Immediate) → HaveReason f is why.OutOfMemory → HoldList is
only_members f [] r = absurd r
only_members f (i ∷ is) (inl r) = own_reason f i is r
only_members f (i ∷ is) (inr r) = later i is (only_members f is r)
