-- How far a call has written a value of its grammar. The proof of a writer is a chain of these steps,
-- one line an exit: README.md has an example.
use Rattle.std.proofs.Common.{◌≡◌, ◌≢◌, ℕ, ◌+◌, ◌≤◌, ◌<◌, Bool, true, false, List, [], ◌∷◌, ◌++◌, length, take, Result, Ok, Err, refl, sym, subst, ap, ◌∙◌, append_assoc, length-append, arith}
use Rattle.std.specs.Prelude.{IsErrAnd}
use Rattle.std.proofs.lemmas.Bool.{false≢true}
use Rattle.std.proofs.lemmas.List.{append-nil, take_at}
use Rattle.wasm_below.specs.declared.message.Message.{Message}
use Rattle.wasm_below.specs.declared.message.Message.TheVariants as message
use Rattle.wasm_below.specs.Source.{Reader, IsByte}
use Rattle.wasm_grammars.specs.BlockLaws.{IsBytes}
use Rattle.wasm_grammars.specs.Blocks.{block}
use Rattle.wasm_grammars.specs.Grammar.{IsPart, Grammar, part, done, fail, bind, need, choose, peek, within, allocate, spanned, thing, Leads, pick, Encodes}
use Rattle.wasm_grammars.specs.Parts.{byte}
use Rattle.wasm_encode_numbers.specs.Appended.{Appends}
use Rattle.wasm_write_grammars.specs.Writing.{Writes, HasNone, IsUnwritable, Extends, AppendsBy, NoReason}

-- Of `x`, which is written by `g` after `old`, `h` is left to write after `now`.
pub record Owes {X : Type 0} (g : Grammar X) (x : X) (old : List ℕ) (h : Grammar X) (now : List ℕ) : Type 0 where
  pub appended : Extends old now
  pub pays : (new : List ℕ) → Writes h x now new → Writes g x old new
  pub lacks : HasNone h x → HasNone g x

-- Each encoding of `x` begins with the part `y`.
abbrev pub Only : {X Y : Type 0} → Grammar Y → (Y → Grammar X) → X → Y → Type 0
Only {X} {Y} p q x y = (z : Y) (place at : ℕ) (first after : List ℕ) → Encodes p place first z → Encodes (q z) at after x → z ≡ y

pub extends_all : (old : List ℕ) → Extends old old
extends_all old = record { part = []; appended = sym (append-nil old) }

pub extends_then : {old now new : List ℕ} → Extends old now → Extends now new → Extends old new
extends_then {old} {now} {new} a b =
    record { part = a.part ++ b.part; appended = b.appended ∙ ap (λ z. z ++ b.part) a.appended ∙ append_assoc old a.part b.part }

pub owes : {X : Type 0} (g : Grammar X) (x : X) (old : List ℕ) → Owes g x old g old
owes g x old = record { appended = extends_all old; pays = λ new w. w; lacks = λ none. none }

-- A part is written like a value of `wasm_encode_numbers`.
pub of_part : {X : Type 0} {E : List ℕ → X → Type 0} {F : Message → Reader → ℕ → Type 0} {M : Reader → Type 0} {is : IsPart E F} {x : X} {old new : List ℕ} →
    Appends E x old new → Writes (part E F M is) x old new
of_part a = record { text = a.text; appended = a.appended; encodes = λ place. a.encodes; shortest = λ place. a.shortest }

pub of_thing : {X : Type 0} {g : Grammar X} {x : X} {old new : List ℕ} → Writes g x old new → Writes (thing g) x old new
of_thing w = record { text = w.text; appended = w.appended; encodes = w.encodes; shortest = w.shortest }

pub thing_of : {X : Type 0} {g : Grammar X} {x : X} {old new : List ℕ} → Writes (thing g) x old new → Writes g x old new
thing_of w = record { text = w.text; appended = w.appended; encodes = w.encodes; shortest = w.shortest }

same_length : (text other : List ℕ) → other ≡ text → length text ≤ length other
same_length text other e = let l = ap length e in omega (arith, l)

pub byte_written : {n : ℕ} {old new : List ℕ} → n < 256 → new ≡ old ++ n ∷ [] → Writes byte n old new
byte_written {n} lt e = record { text = n ∷ []; appended = e; encodes = λ place. (refl, lt); shortest = λ place other p. same_length (n ∷ []) other p.0 }

pub block_written : {n : ℕ} {bytes old new : List ℕ} → length bytes ≡ n → new ≡ old ++ bytes → Writes (block n) bytes old new
block_written {bytes = bytes} size e = record { text = bytes; appended = e; encodes = λ place. (refl, size); shortest = λ place other p. same_length bytes other p.0 }

module _ {X : Type 0} {g : Grammar X} {x : X} {old now : List ℕ} where
  pub wrote : {Y : Type 0} {p : Grammar Y} {q : Y → Grammar X} → Owes g x old (bind p q) now → (y : Y) → Only p q x y → {mid : List ℕ} → Writes p y now mid →
      Owes g x old (q y) mid
  wrote {Y} {p} {q} o y only {mid} w =
      record {
        appended = extends_then o.appended (record { part = w.text; appended = w.appended });
        pays = λ new v. o.pays new (joined new v);
        lacks = λ none. o.lacks (λ place text (first, after, z, e, a, b).
            none (place + length first) after (subst (λ k. Encodes (q k) (place + length first) after x) (only z place (place + length first) first after a b) b));
      }
    where
      longer : (new : List ℕ) (v : Writes (q y) x mid new) (place : ℕ) (other : List ℕ) → Encodes (bind p q) place other x → length (w.text ++ v.text) ≤ length other
      longer new v place other (first, after, z, e, a, b) =
          let same = only z place (place + length first) first after a b in
          let one = w.shortest place first (subst (λ k. Encodes p place first k) same a) in
          let two = v.shortest (place + length first) after (subst (λ k. Encodes (q k) (place + length first) after x) same b) in
          let l = length-append w.text v.text in
          let k = ap length e ∙ length-append first after in
          omega (arith, one, two, l, k)

      joined : (new : List ℕ) → Writes (q y) x mid new → Writes (bind p q) x now new
      joined new v =
          record {
            text = w.text ++ v.text;
            appended = v.appended ∙ ap (λ z. z ++ v.text) w.appended ∙ append_assoc now w.text v.text;
            encodes = λ place. (w.text, v.text, y, refl, w.encodes place, v.encodes (place + length w.text));
            shortest = longer new v;
          }

  -- The part has no encoding.
  pub lacks_part : {Y : Type 0} {p : Grammar Y} {q : Y → Grammar X} → Owes g x old (bind p q) now → (y : Y) → Only p q x y → HasNone p y → HasNone g x
  lacks_part {Y} {p} {q} o y only none =
      o.lacks (λ place text (first, after, z, e, a, b). none place first (subst (λ k. Encodes p place first k) (only z place (place + length first) first after a b) a))

  pub meets : {b : Bool} {m : Message} {h : Grammar X} → Owes g x old (need b m h) now → b ≡ true → Owes g x old h now
  meets {b} {m} {h} o is =
      record {
        appended = o.appended;
        pays = λ new w. o.pays new (record { text = w.text; appended = w.appended; encodes = λ place. (is, w.encodes place); shortest = λ place other p. w.shortest place other p.1 });
        lacks = λ none. o.lacks (λ place text p. none place text p.1);
      }

  pub breaks : {b : Bool} {m : Message} {h : Grammar X} → Owes g x old (need b m h) now → b ≡ false → HasNone g x
  breaks o is = o.lacks (λ place text p. false≢true (sym is ∙ p.0))

  -- The value is written by the first grammar of a choice.
  pub chosen : {b : Bool} {h k : Grammar X} → Owes g x old (choose b h k) now → b ≡ true → Owes g x old h now
  chosen {b} {h} {k} o is = through (subst (λ z. Owes g x old (choose z h k) now) is o)
    where
      through : Owes g x old (choose true h k) now → Owes g x old h now
      through o =
          record {
            appended = o.appended;
            pays = λ new w. o.pays new (record { text = w.text; appended = w.appended; encodes = w.encodes; shortest = w.shortest });
            lacks = λ none. o.lacks (λ place text p. none place text p);
          }

  pub other : {b : Bool} {h k : Grammar X} → Owes g x old (choose b h k) now → b ≡ false → Owes g x old k now
  other {b} {h} {k} o is = through (subst (λ z. Owes g x old (choose z h k) now) is o)
    where
      through : Owes g x old (choose false h k) now → Owes g x old k now
      through o =
          record {
            appended = o.appended;
            pays = λ new w. o.pays new (record { text = w.text; appended = w.appended; encodes = w.encodes; shortest = w.shortest });
            lacks = λ none. o.lacks (λ place text p. none place text p);
          }

  -- The value is written by the first grammar of a choice by the next byte, and starts with `b`.
  pub led : {p : ℕ → Bool} {q : ℕ → Grammar X} {k : Grammar X} → Owes g x old (peek p (bind byte q) k) now → (b : ℕ) → p b ≡ true →
      ((c place : ℕ) (text : List ℕ) → p c ≡ true → Encodes (q c) place text x → c ≡ b) → ((place : ℕ) (text : List ℕ) → Leads p false text → Encodes k place text x → ⊥) →
      {mid : List ℕ} → Writes byte b now mid → Owes g x old (q b) mid
  led {p} {q} {k} o b is only never {mid} w =
      record {
        appended = extends_then o.appended (record { part = w.text; appended = w.appended });
        pays = λ new v. o.pays new (joined new v);
        lacks = λ none. o.lacks (λ place text e. (let (rest, same, r) = after place text e in none (place + 1) rest r));
      }
    where
      after : (place : ℕ) (text : List ℕ) → Encodes (peek p (bind byte q) k) place text x → (rest : List ℕ) × (text ≡ b ∷ rest) × Encodes (q b) (place + 1) rest x
      after place text (false, l, e) = absurd (never place text l e)
      after place text (true, (c, t, same, lead), (first, rest, z, e, a, r)) =
          let whole : c ∷ t ≡ z ∷ rest = sym same ∙ e ∙ ap (λ l. l ++ rest) a.0 in
          let z_is : z ≡ b = only z (place + length first) rest (subst (λ d. p d ≡ true) (let head : c ≡ z = cc whole in head) lead) r in
          let placed = subst (λ (l : List ℕ). Encodes (q z) (place + length l) rest x) a.0 r in
          (rest, e ∙ ap (λ l. l ++ rest) a.0 ∙ ap (λ d. d ∷ rest) z_is, subst (λ d. Encodes (q d) (place + 1) rest x) z_is placed)

      longer : (new : List ℕ) (v : Writes (q b) x mid new) (place : ℕ) (text : List ℕ) → Encodes (peek p (bind byte q) k) place text x → length (w.text ++ v.text) ≤ length text
      longer new v place text e =
          let (rest, same, r) = after place text e in
          let short = v.shortest (place + 1) rest r in
          let one : length w.text ≡ 1 = ap length (w.encodes 0).0 in
          let l = length-append w.text v.text in
          let m = ap length same in
          omega (arith, short, one, l, m)

      joined : (new : List ℕ) → Writes (q b) x mid new → Writes (peek p (bind byte q) k) x now new
      joined new v =
          record {
            text = w.text ++ v.text;
            appended = v.appended ∙ ap (λ z. z ++ v.text) w.appended ∙ append_assoc now w.text v.text;
            encodes = λ place. (true, (b, v.text, ap (λ z. z ++ v.text) (w.encodes 0).0, is), (w.text, v.text, b, refl, w.encodes place, v.encodes (place + length w.text)));
            shortest = longer new v;
          }

  -- The value is written by the second grammar of a choice by the next byte. Each encoding by the first
  -- has one by the second that is not longer.
  pub unled : {p : ℕ → Bool} {h k : Grammar X} → Owes g x old (peek p h k) now → ((place : ℕ) (text : List ℕ) → Encodes k place text x → Leads p false text) →
      ((place : ℕ) (text : List ℕ) → Leads p true text → Encodes h place text x → (there : ℕ) × (other : List ℕ) × Encodes k there other x × (length other ≤ length text)) →
      Owes g x old k now
  unled {p} {h} {k} o leads shorter =
      record {
        appended = o.appended;
        pays = λ new w. o.pays new (record {
          text = w.text;
          appended = w.appended;
          encodes = λ place. (false, leads place w.text (w.encodes place), w.encodes place);
          shortest = λ place text q. (let (there, other, r, le) = second place text q in let short = w.shortest there other r in omega (arith, short, le));
        });
        lacks = λ none. o.lacks (λ place text q. (let (there, other, r, le) = second place text q in none there other r));
      }
    where
      second : (place : ℕ) (text : List ℕ) → Encodes (peek p h k) place text x → (there : ℕ) × (other : List ℕ) × Encodes k there other x × (length other ≤ length text)
      second place text (true, l, q) = shorter place text l q
      second place text (false, l, q) = (place, text, q, omega arith)

  pub reserved : {h : Grammar X} → Owes g x old (allocate h) now → Owes g x old h now
  reserved o =
      record {
        appended = o.appended;
        pays = λ new w. o.pays new (record { text = w.text; appended = w.appended; encodes = w.encodes; shortest = w.shortest });
        lacks = λ none. o.lacks (λ place text p. none place text p);
      }

  pub paid : {v : X} → Owes g x old (done v) now → x ≡ v → Writes g x old now
  paid {v} o same =
      o.pays now (record { text = []; appended = sym (append-nil now); encodes = λ place. (refl, same); shortest = λ place other p. omega arith })

  -- The rest is a thing.
  pub paid_in : {h : Grammar X} → Owes g x old (thing h) now → {new : List ℕ} → Writes h x now new → Writes g x old new
  paid_in o {new} w = o.pays new (of_thing w)

-- The exits of a writer. Its error is `m`, where appending a part `y` fails.
pub given : {X Z : Type 0} {g : Grammar X} {x : X} (Why : X → Message → Type 0) (r : Result Z Message) {m : Message} → IsErrAnd r (λ k. k ≡ m) → {old new : List ℕ} →
    Extends old new → (m ≢ message.OutOfMemory → IsUnwritable g Why x m) → AppendsBy g Why x r old new
given Why (Ok z) is extends why = absurd is
given {g = g} {x = x} Why (Err k) is extends why = (extends, subst (λ k. k ≢ message.OutOfMemory → IsUnwritable g Why x k) (sym is) why)

-- A call that returns what a call for `y` returns.
pub passed_on : {X Y Z : Type 0} {p : Grammar Y} {y : Y} {g : Grammar X} {x : X} (WhyPart : Y → Message → Type 0) (Why : X → Message → Type 0) (r : Result Z Message) {old new : List ℕ} →
    (Writes p y old new → Writes g x old new) → (HasNone p y → HasNone g x) → ((m : Message) → WhyPart y m → Why x m) → AppendsBy p WhyPart y r old new →
    AppendsBy g Why x r old new
passed_on WhyPart Why (Ok z) to none because h = to h
passed_on WhyPart Why (Err m) to none because (extends, why) = (extends, λ known. record { none = none (why known).none; reason = because m (why known).reason })

-- The same if each `y` has an encoding.
pub passed : {X Y Z : Type 0} {p : Grammar Y} {y : Y} {g : Grammar X} {x : X} (Why : X → Message → Type 0) (r : Result Z Message) {old new : List ℕ} →
    (Writes p y old new → Writes g x old new) → AppendsBy p NoReason y r old new → AppendsBy g Why x r old new
passed Why (Ok z) to h = to h
passed Why (Err m) to (extends, why) = (extends, λ known. absurd (why known).reason)

module _ {X Z : Type 0} {g : Grammar X} {x : X} {old now : List ℕ} (Why : X → Message → Type 0) (r : Result Z Message) {m : Message} (is : IsErrAnd r (λ k. k ≡ m)) where
  pub part_fails : {Y : Type 0} {p : Grammar Y} {q : Y → Grammar X} {new : List ℕ} {WhyPart : Y → Message → Type 0} → Owes g x old (bind p q) now → (y : Y) → Only p q x y →
      Extends now new × (m ≢ message.OutOfMemory → IsUnwritable p WhyPart y m) → (WhyPart y m → Why x m) → AppendsBy g Why x r old new
  part_fails o y only (extends, why) because =
      given Why r is (extends_then o.appended extends) (λ known. record { none = lacks_part o y only (why known).none; reason = because (why known).reason })

  pub thing_fails : {Y : Type 0} {p : Grammar Y} {q : Y → Grammar X} {new : List ℕ} {WhyPart : Y → Message → Type 0} → Owes g x old (bind (thing p) q) now → (y : Y) →
      Only (thing p) q x y → Extends now new × (m ≢ message.OutOfMemory → IsUnwritable p WhyPart y m) → (WhyPart y m → Why x m) → AppendsBy g Why x r old new
  thing_fails o y only (extends, why) because =
      given Why r is (extends_then o.appended extends) (λ known. record { none = lacks_part o y only (λ place text p. (why known).none place text p); reason = because (why known).reason })

-- What was appended is removed.
pub cut_back : {old mid new : List ℕ} (n : ℕ) → n ≡ length old → Extends old mid → new ≡ take n mid → new ≡ old
cut_back {old} {mid} {new} n size e cut = cut ∙ ap (λ z. take n z) e.appended ∙ take_at old e.part n (sym size)

-- What is left fails.
pub rest_fails : {X Z : Type 0} {g h : Grammar X} {x : X} {old now new : List ℕ} (Why : X → Message → Type 0) (r : Result Z Message) {m : Message} → IsErrAnd r (λ k. k ≡ m) →
    {WhyRest : X → Message → Type 0} → Owes g x old h now → Extends now new × (m ≢ message.OutOfMemory → IsUnwritable h WhyRest x m) → (WhyRest x m → Why x m) →
    AppendsBy g Why x r old new
rest_fails Why r is o (extends, why) because =
    given Why r is (extends_then o.appended extends) (λ known. record { none = o.lacks (why known).none; reason = because (why known).reason })
