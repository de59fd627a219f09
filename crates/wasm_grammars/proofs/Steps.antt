-- How far a call has come in its grammar. The proof of a reader is a chain of these steps, one line an
-- exit: README.md has an example.
use Rattle.std.proofs.Common.{◌≡◌, ◌≢◌, ℕ, ◌+◌, ◌≤◌, ◌⊎◌, inl, inr, Bool, true, false, List, [], ◌∷◌, ◌++◌, length, Result, Ok, Err, refl, sym, subst, ap, ◌∙◌, append_assoc, length-append, length-drop, ◌-◌, ◌<◌, arith}
use Rattle.std.specs.Prelude.{IsErrAnd}
use Rattle.std.proofs.lemmas.Bool.{false≢true}
use Rattle.std.proofs.lemmas.List.{append-nil}
use Rattle.wasm_below.specs.declared.error.Error.{Error}
use Rattle.wasm_below.specs.declared.features.WasmFeatures.{WasmFeatures}
use Rattle.wasm_below.specs.declared.message.Message.{Message}
use Rattle.wasm_below.specs.declared.message.Message.TheVariants as message
use Rattle.wasm_below.specs.FromReader.{IsRefused}
use Rattle.wasm_below.specs.Refusal.{IsReadFault}
use Rattle.wasm_below.specs.Sequence.{PrefixCode}
use Rattle.wasm_below.specs.Source.{Reader, rest, offset_of, end_of, at_position, Takes, NoPrefix, MayFollow, Refuses, IsRefusal, HasRead, IsByte, BeginsWith, IsEndHere}
use Rattle.wasm_below.proofs.Prefixes.{end_refused, advanced}
use Rattle.wasm_below.proofs.TakesLemmas.{takes_then, takes_none, same_rest}
use Rattle.wasm_grammars.specs.Grammar.{IsPart, Grammar, part, done, here, fail, bind, need, choose, peek, allocate, spanned, thing, Leads, pick, ThenAt, Encodes, HasReadBy, Fault, Memory}
use Rattle.wasm_grammars.specs.Parts.{byte, fail_before}
use Rattle.wasm_grammars.specs.Reading.{Fails, ReadsFrom, ReadsAhead}
use Rattle.wasm_grammars.proofs.Laws.{code, one_lead}

-- A call that reads `g` began at `old`, is at `now`, and has `h` left to read. The thing starts at `s`.
pub record Comes {X : Type 0} (s : ℕ) (g : Grammar X) (old : Reader) (h : Grammar X) (now : Reader) : Type 0 where
  pub later : s ≤ offset_of now
  pub features : now.features ≡ old.features
  pub reads : (x : X) (new : Reader) → HasReadBy h x now new → HasReadBy g x old new
  pub fails : (e : Error) → Fails h s e now → Fails g s e old

no_first : {X Y : Type 0} (P : ℕ → List ℕ → X → Type 0) (Q : X → ℕ → List ℕ → Y → Type 0) (at : ℕ) (bytes : List ℕ) → NoPrefix (P at) bytes →
    NoPrefix (ThenAt P Q at) bytes
no_first P Q at bytes none text rest y (first, second, x, e, p, q) eq =
    none first (second ++ rest) x p (eq ∙ ap (λ z. z ++ rest) e ∙ append_assoc first second rest)

pub no_second : {X Y : Type 0} (P : ℕ → List ℕ → X → Type 0) (Q : X → ℕ → List ℕ → Y → Type 0) (at : ℕ) (text after more : List ℕ) (x : X) → PrefixCode (P at) →
    P at text x → NoPrefix (Q x (at + length text)) (after ++ more) → NoPrefix (ThenAt P Q at) ((text ++ after) ++ more)
no_second P Q at text after more x prefix_code p none t2 rest y (first, second, x2, e, p2, q) eq =
    let whole : text ++ (after ++ more) ≡ first ++ (second ++ rest) = sym (append_assoc text after more) ∙ eq ∙ ap (λ z. z ++ rest) e ∙
    append_assoc first second rest in
    let o = prefix_code text first (after ++ more) (second ++ rest) x x2 p p2 whole in
    let placed = subst (λ (z : List ℕ). Q x (at + length z) second y) (sym o.0) (subst (λ z. Q z (at + length first) second y) (sym o.1) q) in
    none second rest y placed (same_rest text first (after ++ more) (second ++ rest) o.0 whole)

-- The offset after bytes that were read, and the features.
pub moved_on : {old new : Reader} {text : List ℕ} → Takes old new text → offset_of new ≡ offset_of old + length text
moved_on {old} {new} {text} t = let at : offset_of new ≡ old.start + (old.position + length text) = ap offset_of t.moved in omega arith

pub same_features : {old new : Reader} {text : List ℕ} → Takes old new text → new.features ≡ old.features
same_features t = ap (λ (r : Reader). r.features) t.moved

pub ends_here : (m : Message) → m ≢ message.OutOfMemory → MayFollow m []
ends_here message.EndOfData h = refl
ends_here message.OutOfMemory h = absurd (h refl)
ends_here m h = tt

pub no_follow : (more : List ℕ) → MayFollow message.OutOfMemory more → ⊥
no_follow more h = h

pub not_memory : (m : Message) → IsReadFault m → m ≢ message.OutOfMemory
not_memory m h e = subst IsReadFault e h

pub none_here : {X : Type 0} (P : List ℕ → X → Type 0) (m : Message) (bytes : List ℕ) → m ≢ message.OutOfMemory → Refuses P bytes m → NoPrefix P bytes
none_here P m bytes known h = subst (NoPrefix P) (append-nil bytes) (h [] (ends_here m known))

pub reads_then : {X Y : Type 0} (p : Grammar X) (q : X → Grammar Y) (old mid new : Reader) (x : X) (y : Y) → HasReadBy p x old mid →
    HasReadBy (q x) y mid new → HasReadBy (bind p q) y old new
reads_then p q old mid new x y (a, m, s) (b, n, t) =
    (a ++ b, (a, b, x, refl, m, subst (λ at. Encodes (q x) at b y) (moved_on s) n), takes_then old mid new a b s t)

pub first_fails : {X Y : Type 0} (p : Grammar X) (q : X → Grammar Y) (s : ℕ) (e : Error) (old : Reader) → Fails p s e old → Fails (bind p q) s e old
first_fails p q s e old h =
    record {
      refuses = λ more follow. no_first (Encodes p) (λ x. Encodes (q x)) (offset_of old) (rest old ++ more) (h.refuses more follow);
      ahead = h.ahead;
      cause = causes h.cause;
    }
  where
    causes : ((e.message ≡ message.OutOfMemory) × Memory p s old e.offset) ⊎ ((e.message ≢ message.OutOfMemory) × Fault p s e.message old e.offset) →
        ((e.message ≡ message.OutOfMemory) × Memory (bind p q) s old e.offset) ⊎ ((e.message ≢ message.OutOfMemory) × Fault (bind p q) s e.message old e.offset)
    causes (inl (m, a)) = inl (m, inl a)
    causes (inr (k, f)) = inr (k, inl (none_here (Encodes p (offset_of old)) e.message (rest old) k h.refuses, f))

pub second_fails : {X Y : Type 0} (p : Grammar X) (q : X → Grammar Y) (s : ℕ) (e : Error) (old mid : Reader) (x : X) → HasReadBy p x old mid →
    Fails (q x) s e mid → Fails (bind p q) s e old
second_fails p q s e old mid x (text, n, t) h =
    record {
      refuses = λ more follow. subst (λ z. NoPrefix (Encodes (bind p q) (offset_of old)) (z ++ more)) (sym t.parts)
          (no_second (Encodes p) (λ z. Encodes (q z)) (offset_of old) text (rest mid) more x (code p (offset_of old)) n
          (subst (λ at. NoPrefix (Encodes (q x) at) (rest mid ++ more)) (moved_on t) (h.refuses more follow)));
      ahead = (h.ahead.0, let same : end_of mid ≡ end_of old = ap end_of t.moved in omega (arith, h.ahead.1, same));
      cause = causes h.cause;
    }
  where
    causes : ((e.message ≡ message.OutOfMemory) × Memory (q x) s mid e.offset) ⊎ ((e.message ≢ message.OutOfMemory) × Fault (q x) s e.message mid e.offset) →
        ((e.message ≡ message.OutOfMemory) × Memory (bind p q) s old e.offset) ⊎ ((e.message ≢ message.OutOfMemory) × Fault (bind p q) s e.message old e.offset)
    causes (inl (m, a)) = inl (m, inr (x, mid, (text, n, t), a))
    causes (inr (k, f)) = inr (k, inr (x, mid, (text, n, t), f))

later_then : (s : ℕ) (old new : Reader) (text : List ℕ) → s ≤ offset_of old → Takes old new text → s ≤ offset_of new
later_then s old new text le t =
    let at : offset_of new ≡ old.start + (old.position + length text) = ap offset_of t.moved in omega arith

pub begins_from : {X : Type 0} (s : ℕ) (g : Grammar X) (old : Reader) → s ≤ offset_of old → Comes s g old g old
begins_from s g old le = record { later = le; features = refl; reads = λ x new h. h; fails = λ e h. h }

pub begins : {X : Type 0} (g : Grammar X) {old copy : Reader} → copy ≡ old → Comes (offset_of old) g old g copy
begins g {old} {copy} same = subst (λ r. Comes (offset_of old) g old g r) (sym same) (begins_from (offset_of old) g old (omega arith))

-- A call of which `s` is the start of the thing.
pub begins_at : {X : Type 0} (g : Grammar X) {s : ℕ} {old copy : Reader} → copy ≡ old → s ≤ offset_of old → Comes s g old g copy
begins_at g {s} {old} {copy} same le = subst (λ r. Comes s g old g r) (sym same) (begins_from s g old le)

module _ {X Y : Type 0} {s : ℕ} {g : Grammar X} {old : Reader} {p : Grammar Y} {q : Y → Grammar X} {now : Reader} (c : Comes s g old (bind p q) now) where
  pub then : {y : Y} {mid : Reader} → HasReadBy p y now mid → Comes s g old (q y) mid
  then {y} {mid} h =
      record {
        later = later_then s now mid h.0 c.later h.2;
        features = same_features h.2 ∙ c.features;
        reads = λ x new k. c.reads x new (reads_then p q now mid new y x h k);
        fails = λ e k. c.fails e (second_fails p q s e now mid y h k);
      }

  pub fails_first : {e : Error} → Fails p s e now → Fails g s e old
  fails_first {e} h = c.fails e (first_fails p q s e now h)

-- A type's grammar depends on the features, which the call has kept.
module _ {X Y : Type 0} (h : WasmFeatures → Grammar Y) {s : ℕ} {g k : Grammar X} {old now : Reader} (c : Comes s g old k now) where
  pub read_by_features : (y : Y) {mid : Reader} → HasReadBy (h now.features) y now mid → HasReadBy (h old.features) y now mid
  read_by_features y {mid} r = subst (λ f. HasReadBy (h f) y now mid) c.features r

  pub fails_by_features : {t : ℕ} {e : Error} → Fails (h now.features) t e now → Fails (h old.features) t e now
  fails_by_features {t} {e} f = subst (λ z. Fails (h z) t e now) c.features f

-- The place is the offset of the next byte.
pub placed : {X : Type 0} {s : ℕ} {g : Grammar X} {old now : Reader} {q : ℕ → Grammar X} → Comes s g old (bind here q) now → Comes s g old (q (offset_of now)) now
placed {now = now} c = then c ([], (refl, refl), takes_none now)

-- A part's error.
pub part_fails : {X : Type 0} (E : List ℕ → X → Type 0) (F : Message → Reader → ℕ → Type 0) (M : Reader → Type 0) (is : IsPart E F) (s : ℕ) (e : Error) (r new : Reader) →
    s ≤ offset_of r → (new ≡ r) × IsRefusal E e r × F e.message r e.offset → Fails (part E F M is) s e r
part_fails E F M is s e r new le (_, h, f) =
    record { refuses = h.refuses; ahead = (let low = h.ahead.0 in omega (arith, le, low), h.ahead.1); cause = inr (not_memory e.message h.fault, f) }

pub is_memory : (m : Message) → (m ≡ message.OutOfMemory) ⊎ (m ≢ message.OutOfMemory)
is_memory message.OutOfMemory = inl refl
is_memory m = inr (λ e. absurd (cc e))

-- The error of an old reader that may allocate.
pub value_fails : {X : Type 0} (E : List ℕ → X → Type 0) (F : Message → Reader → ℕ → Type 0) (M : Reader → Type 0) (is : IsPart E F) (s : ℕ) (e : Error) (r new : Reader) →
    s ≤ offset_of r → (new ≡ r) × IsRefused E F M e r → Fails (part E F M is) s e r
value_fails E F M is s e r new le (_, h) =
    record { refuses = h.refuses; ahead = (let low = h.ahead.0 in omega (arith, le, low), h.ahead.1); cause = causes (is_memory e.message) }
  where
    causes : (e.message ≡ message.OutOfMemory) ⊎ (e.message ≢ message.OutOfMemory) →
        ((e.message ≡ message.OutOfMemory) × Memory (part E F M is) s r e.offset) ⊎ ((e.message ≢ message.OutOfMemory) × Fault (part E F M is) s e.message r e.offset)
    causes (inl m) = inl (m, h.memory m)
    causes (inr k) = inr (k, h.fault k)

-- The error of a call that starts here.
pub thing_fails : {X : Type 0} (g : Grammar X) (s : ℕ) (e : Error) (r : Reader) → s ≤ offset_of r → Fails g (offset_of r) e r → Fails (thing g) s e r
thing_fails g s e r le h = record { refuses = h.refuses; ahead = (let low = h.ahead.0 in omega (arith, le, low), h.ahead.1); cause = h.cause }

-- A part's error, which ends the call.
pub fails_at : {X Y : Type 0} {s : ℕ} {g : Grammar X} {old now new : Reader} {E : List ℕ → Y → Type 0} {F : Message → Reader → ℕ → Type 0} {M : Reader → Type 0} {is : IsPart E F}
    {q : Y → Grammar X} → Comes s g old (bind (part E F M is) q) now → {e : Error} → (new ≡ now) × IsRefusal E e now × F e.message now e.offset → Fails g s e old
fails_at {s = s} {now = now} {new = new} {E = E} {F = F} {M = M} {is = is} c {e} h = fails_first c (part_fails E F M is s e now new c.later h)

-- The error of a thing.
pub fails_in : {X Y : Type 0} {s : ℕ} {g : Grammar X} {old now : Reader} {p : Grammar Y} {q : Y → Grammar X} → Comes s g old (bind (thing p) q) now →
    {e : Error} → Fails p (offset_of now) e now → Fails g s e old
fails_in {s = s} {now = now} {p = p} c {e} h = fails_first c (thing_fails p s e now c.later h)

pub passes : {X : Type 0} {s : ℕ} {g h : Grammar X} {old now : Reader} {b : Bool} {m : Message} → Comes s g old (need b m h) now → b ≡ true → Comes s g old h now
passes {X} {s} {g} {h} {old} {now} {b} {m} c is = through (subst (λ z. Comes s g old (need z m h) now) is c)
  where
    through : Comes s g old (need true m h) now → Comes s g old h now
    through c =
        record {
          later = c.later;
          features = c.features;
          reads = λ x new k. c.reads x new (k.0, (refl, k.1), k.2);
          fails = λ e k. c.fails e (record { refuses = λ more follow text after x p. k.refuses more follow text after x p.1; ahead = k.ahead; cause = k.cause });
        }

pub yes : {X : Type 0} {s : ℕ} {g h k : Grammar X} {old now : Reader} {b : Bool} → Comes s g old (choose b h k) now → b ≡ true → Comes s g old h now
yes {X} {s} {g} {h} {k} {old} {now} c is = through (subst (λ z. Comes s g old (choose z h k) now) is c)
  where
    through : Comes s g old (choose true h k) now → Comes s g old h now
    through c =
        record { later = c.later; features = c.features; reads = c.reads; fails = λ e f. c.fails e (record { refuses = f.refuses; ahead = f.ahead; cause = f.cause }) }

pub no : {X : Type 0} {s : ℕ} {g h k : Grammar X} {old now : Reader} {b : Bool} → Comes s g old (choose b h k) now → b ≡ false → Comes s g old k now
no {X} {s} {g} {h} {k} {old} {now} c is = through (subst (λ z. Comes s g old (choose z h k) now) is c)
  where
    through : Comes s g old (choose false h k) now → Comes s g old k now
    through c =
        record { later = c.later; features = c.features; reads = c.reads; fails = λ e f. c.fails e (record { refuses = f.refuses; ahead = f.ahead; cause = f.cause }) }

at_side : {A C : Type 0} (L B D : Bool → Type 0) {E : Type 0} (v : Bool) → L v → (A × B v) ⊎ (C × D v) →
    (A × ((w : Bool) × L w × B w)) ⊎ (C × (((w : Bool) × L w × D w) ⊎ E))
at_side L B D v l (inl (a, b)) = inl (a, (v, l, b))
at_side L B D v l (inr (a, b)) = inr (a, inl (v, l, b))

-- The next byte.
module _ {X : Type 0} {s : ℕ} {g : Grammar X} {old : Reader} {p : ℕ → Bool} {h k : Grammar X} {now : Reader} (c : Comes s g old (peek p h k) now) {b : ℕ}
    (next : BeginsWith b (rest now)) where
  leads : (v : Bool) → p b ≡ v → Leads p v (rest now)
  leads v is = (b, next.0, next.1, is)

  first : (v : Bool) → p b ≡ v → (text after : List ℕ) → 0 < length text → rest now ≡ text ++ after → Leads p v text
  first v is [] after some e = absurd (omega (arith, some))
  first v is (d ∷ text) after some e = let same : b ≡ d = cc (next.1, e) in (d, text, refl, subst (λ z. p z ≡ v) same is)

  other : {A B : Type 0} (v : Bool) → p b ≡ v → (text after more : List ℕ) → rest now ++ more ≡ text ++ after →
      (w : Bool) × Leads p w text × pick w A B → pick v A B
  other {A} {B} v is text after more e (w, l, q) = subst (λ z. pick z A B) (one_lead p text (rest now) after more w v l (leads v is) (sym e)) q

  pub peeked : p b ≡ true → ((text : List ℕ) (x : X) → Encodes h (offset_of now) text x → 0 < length text) → Comes s g old h now
  peeked is some =
      record {
        later = c.later;
        features = c.features;
        reads = λ x new (text, n, t). c.reads x new (text, (true, first true is text (rest new) (some text x n) t.parts, n), t);
        fails = λ e f. c.fails e (record {
          refuses = λ more follow text after x q eq. f.refuses more follow text after x (other true is text after more eq q) eq;
          ahead = f.ahead;
          cause = at_side (λ w. Leads p w (rest now)) (λ w. pick w (Memory h s now e.offset) (Memory k s now e.offset))
              (λ w. pick w (Fault h s e.message now e.offset) (Fault k s e.message now e.offset)) true (leads true is) f.cause;
        });
      }

  pub unpeeked : p b ≡ false → ((text : List ℕ) (x : X) → Encodes k (offset_of now) text x → 0 < length text) → Comes s g old k now
  unpeeked is some =
      record {
        later = c.later;
        features = c.features;
        reads = λ x new (text, n, t). c.reads x new (text, (false, first false is text (rest new) (some text x n) t.parts, n), t);
        fails = λ e f. c.fails e (record {
          refuses = λ more follow text after x q eq. f.refuses more follow text after x (other false is text after more eq q) eq;
          ahead = f.ahead;
          cause = at_side (λ w. Leads p w (rest now)) (λ w. pick w (Memory h s now e.offset) (Memory k s now e.offset))
              (λ w. pick w (Fault h s e.message now e.offset) (Fault k s e.message now e.offset)) false (leads false is) f.cause;
        });
      }

-- No byte is left.
pub peek_ends : {X : Type 0} {s : ℕ} {g : Grammar X} {old : Reader} {p : ℕ → Bool} {h k : Grammar X} {now : Reader} → Comes s g old (peek p h k) now → {e : Error} →
    IsEndHere e now → Fails g s e old
peek_ends {X} {s} {g} {old} {p} {h} {k} {now} c {e} f =
    let r = end_refused (Encodes (peek p h k) (offset_of now)) e now (λ x (v, (d, t, none, _), _). let no : [] ≡ d ∷ t = none in cc no) f in
    c.fails e (record { refuses = r.refuses; ahead = (let low = r.ahead.0 in let le = c.later in omega (arith, low, le), r.ahead.1); cause = inr (not_memory e.message r.fault, inr f) })

-- A value was read, and the bytes are taken with it; or it was not.
pub with_bytes : {X : Type 0} (h : Grammar X) (x : X) {now mid : Reader} (r : HasReadBy h x now mid) → HasReadBy (spanned h) (r.0, x) now mid
with_bytes h x (text, p, t) = (text, (refl, p), t)

pub bytes_fail : {X : Type 0} {h : Grammar X} {s : ℕ} {e : Error} {now : Reader} → Fails h s e now → Fails (spanned h) s e now
bytes_fail f = record { refuses = λ more follow text after v p. f.refuses more follow text after v.1 p.1; ahead = f.ahead; cause = f.cause }

-- A condition fails.
pub stops : {X : Type 0} {s : ℕ} {g h : Grammar X} {old now : Reader} {b : Bool} {m : Message} → Comes s g old (need b m h) now → b ≡ false →
    m ≢ message.OutOfMemory → s ≤ end_of now → {e : Error} → e.message ≡ m → e.offset ≡ s → Fails g s e old
stops {X} {s} {g} {h} {old} {now} {b} {m} c is known within {e} same at =
    (subst (λ z. Comes s g old (need z m h) now) is c).fails e (record {
      refuses = λ more follow text after x p. absurd (false≢true p.0);
      ahead = (omega (arith, at), omega (arith, at, within));
      cause = inr (subst (λ k. k ≢ message.OutOfMemory) (sym same) known, (same, at));
    })

-- A condition on the number before fails: the error is at the number's last byte.
pub stops_last : {X : Type 0} {s : ℕ} {g h : Grammar X} {old now : Reader} {b : Bool} {m : Message} → Comes s g old (choose b h (fail_before m)) now → b ≡ false →
    m ≢ message.OutOfMemory → s < offset_of now → offset_of now ≤ end_of now → {e : Error} → e.message ≡ m → e.offset ≡ offset_of now - 1 → Fails g s e old
stops_last {X} {s} {g} {h} {old} {now} {b} {m} c is known begun within {e} same at =
    (no c is).fails e (record {
      refuses = λ more follow text after x p. absurd p;
      ahead = (omega (arith, at, begun), omega (arith, at, within));
      cause = inr (subst (λ k. k ≢ message.OutOfMemory) (sym same) known, (same, at));
    })

pub refused : {X : Type 0} {s : ℕ} {g : Grammar X} {old now : Reader} {m : Message} → Comes s g old (fail m) now → m ≢ message.OutOfMemory → s ≤ end_of now →
    {e : Error} → e.message ≡ m → e.offset ≡ s → Fails g s e old
refused {X} {s} {g} {old} {now} {m} c known within {e} is at =
    c.fails e (record {
      refuses = λ more follow text after x p. absurd p;
      ahead = (omega (arith, at), omega (arith, at, within));
      cause = inr (subst (λ k. k ≢ message.OutOfMemory) (sym is) known, (is, at));
    })

pub ends : {X : Type 0} {s : ℕ} {g : Grammar X} {old : Reader} {now : Reader} {v : X} → Comes s g old (done v) now → HasReadBy g v old now
ends {X} {s} {g} {old} {now} {v} c = c.reads v now ([], (refl, refl), takes_none now)

pub ends_as : {X : Type 0} {s : ℕ} {g : Grammar X} {old now : Reader} {v w : X} → Comes s g old (done v) now → v ≡ w → HasReadBy g w old now
ends_as {g = g} {old = old} {now = now} c same = subst (λ z. HasReadBy g z old now) same (ends c)

-- The rest is a thing.
pub ends_in : {X : Type 0} {s : ℕ} {g h : Grammar X} {old now : Reader} → Comes s g old (thing h) now → {e : Error} → Fails h (offset_of now) e now → Fails g s e old
ends_in {s = s} {h = h} {now = now} c {e} k = c.fails e (thing_fails h s e now c.later k)

-- Allocation fails, where the grammar allocates.
pub exhausted : {X : Type 0} {s : ℕ} {g h : Grammar X} {old now : Reader} → Comes s g old (allocate h) now → s ≤ end_of now →
    {e : Error} → e.message ≡ message.OutOfMemory → e.offset ≡ s → Fails g s e old
exhausted {s = s} {h = h} {now = now} c within {e} is at =
    c.fails e (record {
      refuses = λ more follow. absurd (no_follow more (subst (λ m. MayFollow m more) is follow));
      ahead = (omega (arith, at), omega (arith, at, within));
      cause = inl (is, inl at);
    })

pub allocated : {X : Type 0} {s : ℕ} {g h : Grammar X} {old now : Reader} → Comes s g old (allocate h) now → Comes s g old h now
allocated {h = h} c = record { later = c.later; features = c.features; reads = c.reads; fails = λ e k. c.fails e (record { refuses = k.refuses; ahead = k.ahead; cause = causes k.cause }) }
  where
    causes : {A B C D : Type 0} → (A × B) ⊎ C → (A × (D ⊎ B)) ⊎ C
    causes (inl (a, b)) = inl (a, inr b)
    causes (inr c) = inr c

-- A copy reads ahead. If this fails, the reader stays.
pub stays : {X : Type 0} {g : Grammar X} {s : ℕ} (r : Result X Error) {e : Error} {old : Reader} → IsErrAnd r (λ y. y ≡ e) → Fails g s e old → ReadsFrom g s r old old
stays (Ok x) is h = absurd is
stays {g = g} {s = s} (Err y) {old = old} is h = (refl, subst (λ z. Fails g s z old) (sym is) h)

pub failed : {X : Type 0} {g : Grammar X} {s : ℕ} (r : Result X Error) {e : Error} {old : Reader} (new : Reader) → IsErrAnd r (λ y. y ≡ e) → Fails g s e old →
    ReadsAhead g s r old new
failed (Ok x) new is h = absurd is
failed {g = g} {s = s} (Err y) {old = old} new is h = subst (λ z. Fails g s z old) (sym is) h

-- A number was read: its last byte is in the thing.
pub last_byte : {s : ℕ} {old mid : Reader} {text : List ℕ} → Takes old mid text → s ≤ offset_of old → 0 < length text → s < offset_of mid
last_byte {s} {old} {mid} {text} t le some = let at = moved_on t in omega (arith, at, le, some)

-- Bytes were read here, so that the reader is within its data.
pub within : {s : ℕ} {old mid : Reader} {text : List ℕ} → Takes old mid text → s ≤ offset_of old → 0 < length text → s ≤ end_of old
within {s} {old} {mid} {text} t le some =
    let whole : length old.buffer - old.position ≡ length text + length (rest mid) = sym (length-drop old.position old.buffer) ∙ ap length t.parts ∙
    length-append text (rest mid) in
    omega arith

-- A byte was read.
pub begun : {copy old mid : Reader} {b : ℕ} → copy ≡ old → HasRead IsByte b copy mid → offset_of old ≤ end_of mid
begun {copy} {old} {mid} same (text, p, t) =
    let one : length text ≡ 1 = ap length p.0 in
    let inside : offset_of copy ≤ end_of copy = within t (omega arith) (omega arith) in
    let kept : end_of mid ≡ end_of copy = ap end_of t.moved in
    let at : offset_of copy ≡ offset_of old = ap offset_of same in
    omega arith

-- The end is where it was.
pub kept : {s : ℕ} {old mid : Reader} {text : List ℕ} → s ≤ end_of old → Takes old mid text → s ≤ end_of mid
kept {s} {old} {mid} le t = let same : end_of mid ≡ end_of old = ap end_of t.moved in omega arith

-- A byte that was seen is read.
pub taken : {old new : Reader} {b : ℕ} → BeginsWith b (rest old) → b < 256 → new ≡ at_position old (old.position + 1) → HasRead IsByte b old new
taken {old} {new} {b} next small moved = (b ∷ [], (refl, small), advanced old new b next moved)

-- The rest of a type is read after its first byte.
pub stays_after : {X : Type 0} (h : ℕ → Grammar X) {old copy mid : Reader} (b : ℕ) → copy ≡ old → HasRead IsByte b copy mid → {s : ℕ} → s ≡ offset_of old →
    (r : Result X Error) {e : Error} → IsErrAnd r (λ y. y ≡ e) → Fails (h b) s e mid → ReadsFrom (bind byte h) (offset_of old) r old old
stays_after h {old} {copy} {mid} b same read {s} at r {e} is f =
    stays r is ((then (begins (bind byte h) same) read).fails e (subst (λ z. Fails (h b) z e mid) at f))

pub inside : (old mid : Reader) (text : List ℕ) → Takes old mid text → 0 < length text → mid.position ≤ length mid.buffer
inside old mid text t some =
    let whole : length old.buffer - old.position ≡ length text + length (rest mid) = sym (length-drop old.position old.buffer) ∙ ap length t.parts ∙
    length-append text (rest mid) in
    let position : mid.position ≡ old.position + length text = ap (λ (r : Reader). r.position) t.moved in
    let buffer : length mid.buffer ≡ length old.buffer = ap (λ (r : Reader). length r.buffer) t.moved in
    omega arith
