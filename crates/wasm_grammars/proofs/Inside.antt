-- A thing that fills the next `n` bytes: `inside` is a reader of these, `after` follows them.
use Rattle.std.proofs.Common.{◌≡◌, ◌≢◌, ℕ, ◌+◌, ◌≤◌, ◌⊎◌, inl, inr, List, [], ◌∷◌, ◌++◌, length, take, refl, sym, subst, ap, ◌∙◌, append_assoc, length-append, length-drop, ◌-◌, arith}
use Rattle.std.proofs.lemmas.List.{append-nil, take_at}
use Rattle.wasm_below.specs.declared.error.Error.{Error}
use Rattle.wasm_below.specs.declared.message.Message.{Message}
use Rattle.wasm_below.specs.declared.message.Message.TheVariants as message
use Rattle.wasm_below.specs.Source.{Reader, reader_of, rest, offset_of, end_of, Takes, NoPrefix, MayFollow, Refuses, IsShort}
use Rattle.wasm_below.proofs.Blocks.{short_refused}
use Rattle.wasm_grammars.specs.Grammar.{Grammar, within, cut, Encodes, HasReadBy, Fault, Memory}
use Rattle.wasm_grammars.specs.Reading.{Fails}
use Rattle.wasm_grammars.proofs.Laws.{code}
use Rattle.wasm_grammars.specs.BlockLaws.{same_front}
use Rattle.wasm_grammars.proofs.Steps.{ends_here, none_here, not_memory, is_memory, no_follow}

-- No bytes.
empty : (l : List ℕ) → length l ≡ 0 → l ≡ []
empty [] e = refl
empty (x ∷ l) e = absurd (omega (arith, e))

module _ {X : Type 0} {n : ℕ} (m : Message) (h : Grammar X) {now after inside : Reader} {text : List ℕ} (le : offset_of now ≤ end_of now) (size : length text ≡ n)
    (taken : Takes now after text) (at : inside ≡ reader_of now.features (offset_of now) text) where
  whole : cut n now ≡ inside
  whole = ap (λ z. reader_of now.features (offset_of now) z) (ap (λ z. take n z) taken.parts ∙ take_at text (rest after) n size) ∙ sym at

  bytes : rest inside ≡ text
  bytes = ap rest at

  fits : offset_of now + n ≤ end_of now
  fits =
      let split : length now.buffer - now.position ≡ length text + length (rest after) = sym (length-drop now.position now.buffer) ∙ ap length taken.parts ∙
      length-append text (rest after) in
      omega arith

  ends_at : end_of inside ≡ offset_of now + n
  ends_at = ap end_of at ∙ ap (λ k. offset_of now + k) size

  pub starts_at : inside.start + inside.position ≡ offset_of now
  starts_at = let e : offset_of inside ≡ offset_of now + 0 = ap offset_of at in omega (arith, e)

  same_text : (more t z : List ℕ) → length t ≡ n → rest now ++ more ≡ t ++ z → text ≡ t
  same_text more t z len eq =
      same_front text t (rest after ++ more) z (size ∙ sym len) (sym (append_assoc text (rest after) more) ∙ ap (λ w. w ++ more) (sym taken.parts) ∙ eq)

  -- The thing fills the bytes.
  pub filled : (x : X) {end : Reader} → HasReadBy h x inside end → rest end ≡ [] → HasReadBy (within n m h) x now after
  filled x {end} (t, is, u) none =
      let all : text ≡ t = sym bytes ∙ u.parts ∙ ap (λ z. t ++ z) none ∙ append-nil t in
      (text, (size, subst (λ z. Encodes h z text x) starts_at (subst (λ z. Encodes h (offset_of inside) z x) (sym all) is)), taken)

  -- The thing's error.
  pub inside_fails : {s : ℕ} {e : Error} → Fails h s e inside → Fails (within n m h) s e now
  inside_fails {s} {e} f =
      record {
        refuses = none (is_memory e.message);
        ahead = (f.ahead.0, (let high = f.ahead.1 in let last = ends_at in let room = fits in omega (arith, high, last, room)));
        cause = causes f.cause;
      }
    where
      none : (e.message ≡ message.OutOfMemory) ⊎ (e.message ≢ message.OutOfMemory) → Refuses (Encodes (within n m h) (offset_of now)) (rest now) e.message
      none (inl is) = λ more follow. absurd (no_follow more (subst (λ k. MayFollow k more) is follow))
      none (inr k) = λ more follow t z x p eq. let same = same_text more t z p.0 eq in
          f.refuses [] (ends_here e.message k) t [] x (subst (λ z. Encodes h z t x) (sym starts_at) p.1) (append-nil (rest inside) ∙ bytes ∙ same ∙ sym (append-nil t))

      causes : ((e.message ≡ message.OutOfMemory) × Memory h s inside e.offset) ⊎ ((e.message ≢ message.OutOfMemory) × Fault h s e.message inside e.offset) →
          ((e.message ≡ message.OutOfMemory) × Memory (within n m h) s now e.offset) ⊎ ((e.message ≢ message.OutOfMemory) × Fault (within n m h) s e.message now e.offset)
      causes (inl (is, a)) = inl (is, subst (λ r. Memory h s r e.offset) (sym whole) a)
      causes (inr (k, a)) = inr (
        k,
        inr (
          fits,
          inl (subst (λ r. NoPrefix (Encodes h (offset_of r)) (rest r) × Fault h s e.message r e.offset) (sym whole)
              (none_here (Encodes h (offset_of inside)) e.message (rest inside) k f.refuses, a)),
        ),
      )

  -- Bytes are left after the thing.
  pub left_over : {s : ℕ} {e : Error} (x : X) {end : Reader} → s ≤ offset_of now → HasReadBy h x inside end → rest end ≢ [] → m ≢ message.OutOfMemory →
      e.message ≡ m → e.offset ≡ offset_of end → Fails (within n m h) s e now
  left_over {s} {e} x {end} start (a, is, u) some known same at_end =
      let parts : length text ≡ length a + length (rest end) = sym (ap length bytes) ∙ ap length u.parts ∙ length-append a (rest end) in
      let moved : offset_of end ≡ inside.start + (inside.position + length a) = ap offset_of u.moved in
      let first = starts_at in
      let room = fits in
      record {
        refuses = λ more follow t z y p eq. (
            let one = same_text more t z p.0 eq in
            let front = (code h (offset_of inside) a t (rest end) [] x y is (subst (λ z. Encodes h z t y) (sym starts_at) p.1) (sym u.parts ∙ bytes ∙ one ∙ sym (append-nil t))).0 in
            let long : length a ≡ length text = ap length (front ∙ sym one) in
            some (empty (rest end) (omega (arith, parts, long)))
            );
        ahead = (omega (arith, start, moved, first, at_end), omega (arith, moved, first, at_end, parts, size, room));
        cause = inr (
          subst (λ k. k ≢ message.OutOfMemory) (sym same) known,
          inr (fits, inr (x, end, subst (λ r. HasReadBy h x r end) (sym whole) (a, is, u), same, at_end)),
        );
      }

-- Fewer than `n` bytes are left.
pub short : {X : Type 0} {n : ℕ} {m : Message} (h : Grammar X) {s : ℕ} {e : Error} {now : Reader} → offset_of now ≤ end_of now → s ≤ offset_of now → IsShort n e now →
    Fails (within n m h) s e now
short {X} {n} {m} h {s} {e} {now} le start f =
    let r = short_refused (Encodes (within n m h) (offset_of now)) n e now (λ text x p. p.0) (omega (arith, le)) f in
    record {
      refuses = r.refuses;
      ahead = (let low = r.ahead.0 in omega (arith, low, start), r.ahead.1);
      cause = inr (not_memory e.message r.fault, inl f);
    }
