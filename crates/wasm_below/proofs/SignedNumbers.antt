use Rattle.std.proofs.Common.{◌≡◌, ℕ, ◌+◌, ◌-◌, ◌*◌, ◌<◌, ◌≤◌, ◌^◌, List, [], ◌∷◌, sym, subst, ap, ◌∙◌, arith, ℤ, pos, ◌+ℤ◌, ◌*ℤ◌, neg_ℤ, ◌≤ℤ◌, ◌<ℤ◌, inl, inr}
use Rattle.std.proofs.lemmas.Bool.{cases_lt}
use Rattle.std.proofs.lemmas.Int.{ints}
use Rattle.std.proofs.lemmas.Nat.{pow-add, pow_pos}
use Rattle.wasm_below.specs.Source.{NoPrefix}
use Rattle.wasm_below.specs.Number.{EncodesSigned, FitsWidth, last_value}

between : (n : ℤ) (a b : ℕ) → a ≤ b → (neg_ℤ (pos a) ≤ℤ n) × (n <ℤ pos a) → (neg_ℤ (pos b) ≤ℤ n) × (n <ℤ pos b)
between n a b le h = (omega (arith, ints, h.0), omega (arith, ints, h.1))

power_le : (i j : ℕ) → i ≤ j → 2 ^ i ≤ 2 ^ j
power_le i j le =
    let e : i + (j - i) ≡ j = omega arith in
    let s : 2 ^ j ≡ 2 ^ i * 2 ^ (j - i) = ap (λ k. 2 ^ k) (sym e) ∙ pow-add 2 i (j - i) in
    go (2 ^ i) (2 ^ (j - i)) (2 ^ j) (pow_pos (j - i)) s
  where
    go : (a m b : ℕ) → 0 < m → b ≡ a * m → a ≤ b
    go a m b h e = grind (arith, e)

pub fits_more : (i j : ℕ) (n : ℤ) → i ≤ j → FitsWidth i n → FitsWidth j n
fits_more i j n le h = between n (2 ^ (i - 1)) (2 ^ (j - 1)) (power_le (i - 1) (j - 1) (omega arith)) h

pub narrow : (width : ℕ) (n : ℤ) → FitsWidth 7 n → (FitsWidth width n → ⊥) → width ≤ 7
narrow width n small over =
    elim (cases_lt 7 width) [
      | inl lt ↦ absurd (over (fits_more 7 width n (omega arith) small))
      | inr le ↦ le
    ]

joined : (high : ℤ) (a low : ℕ) → low < 128 → (neg_ℤ (pos a) ≤ℤ high) × (high <ℤ pos a) →
    (neg_ℤ (pos (128 * a)) ≤ℤ ((pos 128 *ℤ high) +ℤ pos low)) × (((pos 128 *ℤ high) +ℤ pos low) <ℤ pos (128 * a))
joined high a low lt h = (omega (arith, ints, h.0), omega (arith, ints, h.1))

pub fits_join : (width : ℕ) (high : ℤ) (low : ℕ) → 7 < width → low < 128 → FitsWidth (width - 7) high → FitsWidth width ((pos 128 *ℤ high) +ℤ pos low)
fits_join width high low wide lt h =
    let e : 7 + (width - 7 - 1) ≡ width - 1 = omega arith in
    let s : 128 * 2 ^ (width - 7 - 1) ≡ 2 ^ (width - 1) = sym (pow-add 2 7 (width - 7 - 1)) ∙ ap (λ k. 2 ^ k) e in
    subst (λ x. (neg_ℤ (pos x) ≤ℤ ((pos 128 *ℤ high) +ℤ pos low)) × (((pos 128 *ℤ high) +ℤ pos low) <ℤ pos x)) s (joined high (2 ^ (width - 7 - 1)) low lt h)

pub signed_fits : (text : List ℕ) (width : ℕ) (n : ℤ) → EncodesSigned width text n → FitsWidth width n
signed_fits [] width n p = absurd p
signed_fits (c ∷ []) width n p = p.2
signed_fits (c ∷ d ∷ text) width n (w, le, lt, high, e, p) =
    subst (FitsWidth width) (sym e) (fits_join width high (c - 128) w (omega arith) (signed_fits (d ∷ text) (width - 7) high p))

pub signed_empty : NoPrefix (EncodesSigned 33) []
signed_empty [] rest x p e = p
signed_empty (c ∷ text) rest x p e = cc e

pub signed_large : (bytes after : List ℕ) (b width : ℕ) (v : ℤ) → bytes ≡ b ∷ after → b < 128 → v ≡ last_value b → (FitsWidth width v → ⊥) →
    NoPrefix (EncodesSigned width) bytes
signed_large bytes after b width v eb lt ev over [] rest x p e = p
signed_large bytes after b width v eb lt ev over (c ∷ []) rest x p e =
    let h : c ≡ b = cc (eb, e) in
    over (subst (FitsWidth width) (p.1 ∙ ap last_value h ∙ sym ev) p.2)
signed_large bytes after b width v eb lt ev over (c ∷ d ∷ text) rest x p e = let h : c ≡ b = cc (eb, e) in omega (arith, p.1)

pub signed_long : (bytes after : List ℕ) (b width : ℕ) → bytes ≡ b ∷ after → 128 ≤ b → width ≤ 7 → NoPrefix (EncodesSigned width) bytes
signed_long bytes after b width eb ge narrow [] rest x p e = p
signed_long bytes after b width eb ge narrow (c ∷ []) rest x p e = let h : c ≡ b = cc (eb, e) in omega (arith, p.0)
signed_long bytes after b width eb ge narrow (c ∷ d ∷ text) rest x p e = omega (arith, p.0)

pub signed_rest : (bytes after : List ℕ) (b width : ℕ) → bytes ≡ b ∷ after → 128 ≤ b → NoPrefix (EncodesSigned (width - 7)) after →
    NoPrefix (EncodesSigned width) bytes
signed_rest bytes after b width eb ge none [] rest x p e = p
signed_rest bytes after b width eb ge none (c ∷ []) rest x p e = let h : c ≡ b = cc (eb, e) in omega (arith, p.0)
signed_rest bytes after b width eb ge none (c ∷ d ∷ text) rest x (_, _, _, high, _, p) e = none (d ∷ text) rest high p (cc (eb, e))
