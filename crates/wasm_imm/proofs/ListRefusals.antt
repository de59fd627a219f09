use Rattle.std.proofs.Common.{◌≡◌, ◌≢◌, ℕ, ◌+◌, ◌<◌, ◌≤◌, ◌⊎◌, inl, inr, List, ◌++◌, length, Result, Ok, Err, Vec, Global, refl, sym, subst, ap, ◌∙◌, append_assoc, arith}
use Rattle.std.specs.Prelude.{⊤, IsErrAnd}
use Rattle.wasm_below.specs.declared.error.Error.{Error}
use Rattle.wasm_below.specs.declared.message.Message.{Message}
use Rattle.wasm_below.specs.declared.message.Message.TheVariants as message
use Rattle.wasm_below.specs.Fault.{ThenFault, ManyFault}
use Rattle.wasm_below.specs.FromReader.{IsRefused, ReadsValue}
use Rattle.wasm_below.specs.Refusal.{IsReadFault}
use Rattle.wasm_below.specs.Sequence.{Then, PrefixCode}
use Rattle.wasm_below.specs.Source.{Reader, rest, offset_of, end_of, at_position, Takes, NoPrefix, SomePrefix, MayFollow, IsAhead, IsRefusal, HasRead}
use Rattle.wasm_below.proofs.TakesLemmas.{back, ahead_before}
use Rattle.wasm_imm.specs.Lists.{EncodesMany, items_of}
use Rattle.wasm_imm.proofs.Faults.{none_here, kept_fault, many_fault}
use Rattle.wasm_imm.specs.OutOfMemory.{IsOutOfMemoryAt, IsRefusedFrom}
use Rattle.wasm_below.proofs.Steps.{began_within}
use Rattle.wasm_imm.proofs.ListLemmas.{PrefixAlone, many_none}
use Rattle.wasm_below.proofs.Sequences.{then_no_second}

pub as_refused : {X : Type 0} (P : List ℕ → X → Type 0) (F : Message → Reader → ℕ → Type 0) (M : Reader → Type 0) (e : Error) (old : Reader) →
    IsRefusal P e old → F e.message old e.offset → IsRefused P F M e old
as_refused P F M e old h f =
    record { refuses = h.refuses; ahead = h.ahead; fault = λ some. f; memory = λ m. absurd (subst IsReadFault m h.fault) }

pub refused_by : {X Y : Type 0} (P : List ℕ → X → Type 0) (Q : List ℕ → Y → Type 0) (F G : Message → Reader → ℕ → Type 0) (M N : Reader → Type 0) (e : Error)
    (old : Reader) → ((text : List ℕ) (y : Y) → Q text y → (x : X) × P text x) → ((m : Message) (offset : ℕ) → F m old offset → G m old offset) →
    (M old → N old) → IsRefused P F M e old → IsRefused Q G N e old
refused_by P Q F G M N e old encodes faults memory h =
    record {
      refuses = λ more follow text rest y q eq. let p = encodes text y q in h.refuses more follow text rest p.0 p.1 eq;
      ahead = h.ahead;
      fault = λ some. faults e.message e.offset (h.fault some);
      memory = λ m. let k = h.memory m in (memory k.0, k.1);
    }

pub begun_refused : {X Y : Type 0} (P : List ℕ → X → Type 0) (Q : X → List ℕ → Y → Type 0) (F : Message → Reader → ℕ → Type 0)
    (G : X → Message → Reader → ℕ → Type 0) (M N : Reader → Type 0) (e f : Error) (old mid mid2 new : Reader) (x : X) (position : ℕ) →
    PrefixCode P → ((text : List ℕ) → P text x → 0 < length text) → HasRead P x old mid → ReadsValue (Q x) (G x) M (Err e) mid mid2 → (M mid → N old) →
    position ≡ old.position → new ≡ at_position mid2 position → IsRefusedFrom (mid2.start + position) e f →
    ReadsValue (Then P Q) (ThenFault P F G) N (Err f) old new
begun_refused P Q F G M N e f old mid mid2 new x position prefix_code some (text, p, t) (same, h) memory at went (kept, place) =
    let starts : mid2.start ≡ old.start = ap (λ (r : Reader). r.start) same ∙ ap (λ (r : Reader). r.start) t.moved in
    let here : mid2.start + position ≡ offset_of old = omega arith in
    let within : offset_of old ≤ end_of old = began_within old mid text t (some text p) in
    let ahead = ahead_before old mid text e.offset t h.ahead in
    let later = λ (m : Message) (offset : ℕ). G x m mid offset in (
      back old mid new text position t at (went ∙ ap (λ (r : Reader). at_position r position) same),
      record {
        refuses = λ more follow. subst (λ z. NoPrefix (Then P Q) (z ++ more)) (sym t.parts)
            (then_no_second P Q text (rest mid) more x prefix_code p (h.refuses more (subst (λ m. MayFollow m more) kept follow)));
        ahead = placed place ahead here within;
        fault = λ known. inr (x, mid, (text, p, t), kept_fault later e f (mid2.start + position) (kept, place) h.fault known);
        memory = λ m. (memory (h.memory (sym kept ∙ m)).0, begun place m here);
      },
    )
  where
    placed : IsOutOfMemoryAt (mid2.start + position) f ⊎ ((e.message ≢ message.OutOfMemory) × (f.offset ≡ e.offset)) → IsAhead old e.offset →
        mid2.start + position ≡ offset_of old → offset_of old ≤ end_of old → IsAhead old f.offset
    placed (inl s) a here within = (omega (arith, s.1, here), omega (arith, s.1, here, within))
    placed (inr s) a here within = (omega (arith, s.1, a.0), omega (arith, s.1, a.1))

    begun : IsOutOfMemoryAt (mid2.start + position) f ⊎ ((e.message ≢ message.OutOfMemory) × (f.offset ≡ e.offset)) → f.message ≡ message.OutOfMemory →
        mid2.start + position ≡ offset_of old → f.offset ≡ offset_of old
    begun (inl s) m here = s.1 ∙ here
    begun (inr s) m here = absurd (s.0 (sym kept ∙ m))

pub member_refused : {X : Type 0} (P : List ℕ → X → Type 0) (F : Message → Reader → ℕ → Type 0) (M : Reader → Type 0) (e : Error) (old now : Reader)
    (text : List ℕ) (done : List X) (read count : ℕ) → ((r : Reader) → M r → ⊥) → PrefixAlone P → EncodesMany P read text done → read < count →
    Takes old now text → IsRefused P F M e now → IsRefused (EncodesMany P count) (ManyFault P F count) (λ r. ⊤) e old
member_refused P F M e old now text done read count lean prefix_code d l t h =
    let few : length done < count = omega (arith, d.0, l) in
    record {
      refuses = λ more follow. many_none P old now text done read count prefix_code d l t more (h.refuses more follow);
      ahead = ahead_before old now text e.offset t h.ahead;
      fault = λ some. many_fault P F count done text old now e.message e.offset few d.1 t (none_here P e.message now some h.refuses) (h.fault some);
      memory = λ m. absurd (lean now (h.memory m).0);
    }

-- A `?` returns the error as it is, and the reader stays.
pub stays_refused : {X : Type 0} (P : List ℕ → X → Type 0) (F : Message → Reader → ℕ → Type 0) (M : Reader → Type 0) (r : Result X Error) {e : Error}
    {copy old : Reader} → copy ≡ old → IsErrAnd r (λ y. y ≡ e) → IsRefused P F M e copy → ReadsValue P F M r old old
stays_refused P F M (Ok x) same is h = absurd is
stays_refused P F M (Err y) {e} {copy} {old} same is h =
    (refl, subst (λ z. IsRefused P F M y z) same (subst (λ z. IsRefused P F M z copy) (sym is) h))

-- the same for the items of a vector
pub items_stay_refused : {X : Type 0} (P : List ℕ → List X → Type 0) (F : Message → Reader → ℕ → Type 0) (M : Reader → Type 0) (r : Result (Vec X Global) Error)
    {e : Error} {copy old : Reader} → copy ≡ old → IsErrAnd r (λ y. y ≡ e) → IsRefused P F M e copy → ReadsValue P F M (items_of r) old old
items_stay_refused P F M (Ok v) same is h = absurd is
items_stay_refused P F M (Err y) {e} {copy} {old} same is h =
    (refl, subst (λ z. IsRefused P F M y z) same (subst (λ z. IsRefused P F M z copy) (sym is) h))

-- a call that does not allocate reports no allocation failure
pub not_memory : {X : Type 0} (P : List ℕ → X → Type 0) (e : Error) (old : Reader) → IsRefusal P e old → e.message ≡ message.OutOfMemory → ⊥
not_memory P e old h m = subst IsReadFault m h.fault

-- what was read is encoded by a prefix
pub some_read : {X : Type 0} (P : List ℕ → X → Type 0) (old new : Reader) (x : X) → HasRead P x old new → SomePrefix P (rest old)
some_read P old new x (text, p, t) = (text, rest new, x, p, t.parts)

-- a first part was read, and a prefix encodes the second
pub some_then : {X Y : Type 0} (P : List ℕ → X → Type 0) (Q : X → List ℕ → Y → Type 0) (old new : Reader) (x : X) → HasRead P x old new →
    SomePrefix (Q x) (rest new) → SomePrefix (Then P Q) (rest old)
some_then P Q old new x (text, p, t) (after, more, y, q, eq) =
    (text ++ after, more, y, (text, after, x, refl, p, q), t.parts ∙ ap (λ z. text ++ z) eq ∙ sym (append_assoc text after more))
