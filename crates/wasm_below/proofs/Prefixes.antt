-- What the first byte of the rest implies.
use Rattle.std.proofs.Common.{◌≡◌, ℕ, ◌+◌, ◌-◌, ◌<◌, List, [], ◌∷◌, ◌++◌, length, drop, Result, Ok, Err, refl, sym, subst, ap, ◌∙◌, length-append, length-drop, arith}
use Rattle.std.proofs.lemmas.List.{drop-drop}
use Rattle.wasm_below.specs.declared.error.Error.{Error}
use Rattle.wasm_below.specs.declared.message.Message.{Message}
use Rattle.wasm_below.specs.Refusal.{IsReadFault}
use Rattle.wasm_below.specs.Source.{Reader, rest, offset_of, end_of, at_position, Takes, NoPrefix, MayFollow, IsAhead, IsRefusal, Reads, BeginsWith, IsEndHere}
use Rattle.wasm_below.proofs.TakesLemmas.{back, ahead_before}

pub advanced : (old new : Reader) (b : ℕ) → BeginsWith b (rest old) → new ≡ at_position old (old.position + 1) → Takes old new (b ∷ [])
advanced old new b (more, prefix) moved =
    record {
      moved = moved;
      parts = prefix ∙ ap (λ z. b ∷ z) (sym (ap rest moved ∙ sym (drop-drop 1 old.position old.buffer) ∙ ap (drop 1) prefix));
    }

pub ahead_here : (old mid : Reader) (text : List ℕ) (offset : ℕ) → Takes old mid text → 0 < length text → offset ≡ offset_of old → IsAhead old offset
ahead_here old mid text offset t some at =
    let left : length old.buffer - old.position ≡ length text + length (rest mid) = sym (length-drop old.position old.buffer) ∙ ap length t.parts ∙
    length-append text (rest mid) in
    (omega arith, omega arith)

pub refused_at : {X : Type 0} (Encodes : List ℕ → X → Type 0) (e : Error) (old mid new : Reader) (text : List ℕ) (position : ℕ) → Takes old mid text →
    0 < length text → position ≡ old.position → new ≡ at_position mid position → e.offset ≡ mid.start + position → IsReadFault e.message →
    ((more : List ℕ) → NoPrefix Encodes ((text ++ rest mid) ++ more)) → (new ≡ old) × IsRefusal Encodes e old
refused_at Encodes e old mid new text position t some same went offset fault none =
    let start : mid.start ≡ old.start = ap (λ (r : Reader). r.start) t.moved in
    let at : e.offset ≡ offset_of old = omega (arith, offset, same, start) in (
      back old mid new text position t same went,
      record {
        refuses = λ more _. subst (λ z. NoPrefix Encodes (z ++ more)) (sym t.parts) (none more);
        fault = fault;
        ahead =
            ahead_here old mid text e.offset t some at;
      },
    )

pub end_refused : {X : Type 0} (Encodes : List ℕ → X → Type 0) (e : Error) (r : Reader) → ((x : X) → Encodes [] x → ⊥) → IsEndHere e r → IsRefusal Encodes e r
end_refused Encodes e r empty h =
    record {
      refuses = λ more follow text after x p eq. (
          let none : more ≡ [] = subst (λ m. MayFollow m more) h.0 follow in
          let left : length (rest r) ≡ length r.buffer - r.position = length-drop r.position r.buffer in
          let same : r.start + r.position ≡ r.start + length r.buffer = h.2 in
          let whole : length (rest r) + length more ≡ length text + length after = sym (length-append (rest r) more) ∙ ap length eq ∙
          length-append text after in
          let zero : length more ≡ 0 = ap length none in
          empty x (subst (λ z. Encodes z x) (no_elements text (omega arith)) p)
          );
      fault = subst IsReadFault (sym h.0) tt;
      ahead = (let at : e.offset ≡ offset_of r = h.1 in let same : offset_of r ≡ end_of r = h.2 in (omega arith, omega arith));
    }
  where
    no_elements : (text : List ℕ) → length text ≡ 0 → text ≡ []
    no_elements [] e = refl
    no_elements (c ∷ text) e = absurd (omega arith)

pub led_refused : {X Y : Type 0} (P : List ℕ → X → Type 0) (Q : List ℕ → Y → Type 0) (e : Error) (r : Reader) (b : ℕ) → BeginsWith b (rest r) →
    ((y : Y) → Q [] y → ⊥) → ((tail : List ℕ) (y : Y) → Q (b ∷ tail) y → (x : X) × P (b ∷ tail) x) → IsRefusal P e r → IsRefusal Q e r
led_refused {X} {Y} P Q e r b (after, prefix) empty strip h =
    record { refuses = λ more follow text later y q eq. go text q more later (h.refuses more follow) eq; fault = h.fault; ahead = h.ahead }
  where
    go : (text : List ℕ) {y : Y} → Q text y → (more later : List ℕ) → NoPrefix P (rest r ++ more) → rest r ++ more ≡ text ++ later → ⊥
    go [] q more later none eq = empty _ q
    go (c ∷ tail) {y} q more later none eq =
        let same : c ≡ b = cc (eq, ap (λ z. z ++ more) prefix) in
        let p = strip tail y (subst (λ z. Q (z ∷ tail) y) same q) in
        none (b ∷ tail) later p.0 p.1 (eq ∙ ap (λ z. z ∷ (tail ++ later)) same)

pub led_reads : {X : Type 0} (P Q : List ℕ → X → Type 0) (F G : Message → Reader → ℕ → Type 0) (result : Result X Error) (old new : Reader) (b : ℕ) →
    BeginsWith b (rest old) → ((text : List ℕ) (x : X) → P text x → Q text x) → ((x : X) → Q [] x → ⊥) →
    ((tail : List ℕ) (x : X) → Q (b ∷ tail) x → P (b ∷ tail) x) → ((m : Message) (offset : ℕ) → F m old offset → G m old offset) →
    Reads P F result old new → Reads Q G result old new
led_reads P Q F G (Ok x) old new b prefix into empty strip faults (text, p, takes) = (text, into text x p, takes)
led_reads P Q F G (Err e) old new b prefix into empty strip faults (same, h, f) =
    (same, led_refused P Q e old b prefix empty (λ tail x q. (x, strip tail x q)) h, faults e.message e.offset f)

pub after_refused : {X Y : Type 0} (P : List ℕ → X → Type 0) (Q : List ℕ → Y → Type 0) (e : Error) (old mid : Reader) (b : ℕ) → Takes old mid (b ∷ []) →
    ((y : Y) → Q [] y → ⊥) → ((tail : List ℕ) (y : Y) → Q (b ∷ tail) y → (x : X) × P tail x) → IsRefusal P e mid → IsRefusal Q e old
after_refused {X} {Y} P Q e old mid b takes empty strip h =
    record {
      refuses = λ more follow text after y q eq. go text q more after (h.refuses more follow) (ap (λ z. z ++ more) (sym takes.parts) ∙ eq);
      fault =
          h.fault;
      ahead = ahead_before old mid (b ∷ []) e.offset takes h.ahead;
    }
  where
    go : (text : List ℕ) {y : Y} → Q text y → (more after : List ℕ) → NoPrefix P (rest mid ++ more) → b ∷ (rest mid ++ more) ≡ text ++ after → ⊥
    go [] q more after none eq = empty _ q
    go (c ∷ tail) {y} q more after none eq =
        let same : c ≡ b = cc eq in
        let p = strip tail y (subst (λ z. Q (z ∷ tail) y) same q) in
        none tail after p.0 p.1 (cc eq)
