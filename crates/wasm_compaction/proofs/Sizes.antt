-- Lengths of encodings: a smaller number, a shorter block and parts that are no longer.
use Rattle.std.proofs.Common.{◌≡◌, ℕ, zero, suc, ◌+◌, ◌-◌, ◌/◌, ◌%◌, ◌<◌, ◌≤◌, ◌^◌, inl, inr, List, [], ◌∷◌, ◌++◌, length, refl, sym, ap, ◌∙◌, append_assoc, append-nil, arith, length-append}
use Rattle.std.proofs.lemmas.Bool.{cases_lt}
use Rattle.std.proofs.lemmas.Nat.{div_below}
use Rattle.wasm_below.specs.Number.{EncodesUnsigned}
use Rattle.wasm_below.proofs.Numbers.{unsigned_below}
use Rattle.wasm_encode_numbers.proofs.Unsigned.{joins}
use Rattle.wasm_encode_numbers.specs.Appended.{Appends}
use Rattle.wasm_compaction.specs.Blocks.{IsShortest, EncodesBlock, InSequence}

-- ---- numbers and blocks

smaller : (width : ℕ) (text : List ℕ) (n m : ℕ) → EncodesUnsigned width text n → m ≤ n → (other : List ℕ) × EncodesUnsigned width other m × (length other ≤ length text)
smaller width [] n m p le = absurd p
smaller width (c ∷ []) n m (lt, e, fits) le = (m ∷ [], (omega (arith, lt, e, le), refl, omega (arith, fits, le)), omega arith)
smaller width (c ∷ d ∷ text) n m (w, ge, lt, high, sum, p) le =
    let fits = unsigned_below (c ∷ d ∷ text) width n (w, ge, lt, high, sum, p) in
    elim (cases_lt m 128) [
      | inl one ↦ (m ∷ [], (one, refl, omega (arith, fits, le)), omega arith)
      | inr more ↦ (
          let below : m / 128 < high + 1 = div_below m 128 (high + 1) (omega arith) (omega (arith, sum, lt, le)) in
          let (other, q, short) = smaller (width - 7) (d ∷ text) high (m / 128) p (omega (arith, below)) in
          ((m % 128 + 128) ∷ other, joins width m other w q, omega (arith, short))
          )
    ]

pub block_below : (text block : List ℕ) → EncodesBlock text block → length block < 2 ^ 32
block_below text block (size, parts, p) = unsigned_below size 32 (length block) p

pub block_no_longer : (text block other small : List ℕ) → EncodesBlock text block → length small ≤ length block → IsShortest EncodesBlock other small → length other ≤ length text
block_no_longer text block other small (size, parts, p) le short =
    let (less, q, l) = smaller 32 size (length block) (length small) p le in
    let s = short.shortest (less ++ small) (less, refl, q) in
    let l1 = length-append less small in
    let l2 = ap length parts ∙ length-append size block in
    omega (arith, s, l1, l2, l, le)

pub block_appended : (block old mid new : List ℕ) → Appends (EncodesUnsigned 32) (length block) old mid → new ≡ mid ++ block → Appends EncodesBlock block old new
block_appended block old mid new a e =
    record {
      text = a.text ++ block;
      appended = e ∙ ap (λ z. z ++ block) a.appended ∙ append_assoc old a.text block;
      encodes = (a.text, refl, a.encodes);
      shortest = λ other (size, parts, p).
          let s = a.shortest size p in
          let l1 = length-append a.text block in
          let l2 = ap length parts ∙ length-append size block in
          omega (arith, s, l1, l2);
    }

pub is_shortest : {X : Type 0} (Encodes : List ℕ → X → Type 0) (x : X) (old new : List ℕ) (a : Appends Encodes x old new) → IsShortest Encodes a.text x
is_shortest Encodes x old new a = record { encodes = a.encodes; shortest = a.shortest }

-- ---- parts in sequence

pub none_become : (Becomes : List ℕ → List ℕ → Type 0) → InSequence Becomes 0 [] []
none_become Becomes = (refl, refl)

pub one_more_becomes : (Becomes : List ℕ → List ℕ → Type 0) (n : ℕ) (old new part other : List ℕ) → InSequence Becomes n old new → Becomes part other →
    InSequence Becomes (suc n) (old ++ part) (new ++ other)
one_more_becomes Becomes zero old new part other (a, b) one =
    (part, [], other, [], ap (λ z. z ++ part) a ∙ sym (append-nil part), ap (λ z. z ++ other) b ∙ sym (append-nil other), one, (refl, refl))
one_more_becomes Becomes (suc n) old new part other (p, more, q, others, a, b, first, rest) one =
    (p, more ++ part, q, others ++ other, ap (λ z. z ++ part) a ∙ append_assoc p more part, ap (λ z. z ++ other) b ∙ append_assoc q others other, first, one_more_becomes Becomes n more others part other rest one)

pub parts_no_longer : (Becomes : List ℕ → List ℕ → Type 0) → ((part other : List ℕ) → Becomes part other → length other ≤ length part) →
    (n : ℕ) (old new : List ℕ) → InSequence Becomes n old new → length new ≤ length old
parts_no_longer Becomes each zero old new (a, b) = omega (arith, ap length b)
parts_no_longer Becomes each (suc n) old new (p, more, q, others, a, b, first, rest) =
    let s = each p q first in
    let t = parts_no_longer Becomes each n more others rest in
    let l1 = ap length a ∙ length-append p more in
    let l2 = ap length b ∙ length-append q others in
    omega (arith, s, t, l1, l2)
