use Rattle.std.proofs.Common.{◌≡◌, ℕ, ◌+◌, ◌-◌, ◌*◌, ◌/◌, ◌<◌, ◌≤◌, ◌^◌, List, [], ◌∷◌, sym, ap, ◌∙◌, arith, inl, inr}
use Rattle.std.proofs.lemmas.Nat.{pow-add, pow_pos, le-div}
use Rattle.std.proofs.lemmas.Bool.{cases_lt}
use Rattle.wasm_below.specs.Source.{rest, NoPrefix}
use Rattle.wasm_below.specs.Number.{EncodesUnsigned}

width_split : (width : ℕ) → 7 < width → 2 ^ width ≡ 128 * 2 ^ (width - 7)
width_split width h =
    let e : 7 + (width - 7) ≡ width = omega arith in
    ap (λ k. 2 ^ k) (sym e) ∙ pow-add 2 7 (width - 7)

pub unsigned_below : (text : List ℕ) (width n : ℕ) → EncodesUnsigned width text n → n < 2 ^ width
unsigned_below [] width n p = absurd p
unsigned_below (c ∷ []) width n p = p.2
unsigned_below (c ∷ d ∷ text) width n (wide, big, small, high, e, p) =
    let h : high < 2 ^ (width - 7) = unsigned_below (d ∷ text) (width - 7) high p in
    let s = width_split width wide in
    omega (arith, s)

pub unsigned_long : (bytes after : List ℕ) (b width : ℕ) → bytes ≡ b ∷ after → 128 ≤ b → width ≤ 7 → NoPrefix (EncodesUnsigned width) bytes
unsigned_long bytes after b width eb ge narrow [] rest x p e = p
unsigned_long bytes after b width eb ge narrow (c ∷ []) rest x p e = let h : c ≡ b = cc (eb, e) in omega (arith, p.0)
unsigned_long bytes after b width eb ge narrow (c ∷ d ∷ text) rest x p e = omega (arith, p.0)

pub unsigned_rest : (bytes after : List ℕ) (b width : ℕ) → bytes ≡ b ∷ after → 128 ≤ b → NoPrefix (EncodesUnsigned (width - 7)) after →
    NoPrefix (EncodesUnsigned width) bytes
unsigned_rest bytes after b width eb ge none [] rest x p e = p
unsigned_rest bytes after b width eb ge none (c ∷ []) rest x p e = let h : c ≡ b = cc (eb, e) in omega (arith, p.0)
unsigned_rest bytes after b width eb ge none (c ∷ d ∷ text) rest x (_, _, _, high, _, p) e = none (d ∷ text) rest high p (cc (eb, e))

pub last_fits : (b width : ℕ) → b / 2 ^ width ≡ 0 → b < 2 ^ width
last_fits b width h =
    elim (cases_lt b (2 ^ width)) [
      | inl lt ↦ lt
      | inr le ↦ (let one : 1 ≤ b / 2 ^ width = le-div 1 b (2 ^ width) (pow_pos width) (omega arith) in absurd (omega arith))
    ]

pub wide_fits : (b width : ℕ) → b < 128 → 7 ≤ width → b < 2 ^ width
wide_fits b width lt wide =
    let e : 7 + (width - 7) ≡ width = omega arith in
    let s : 2 ^ width ≡ 128 * 2 ^ (width - 7) = ap (λ k. 2 ^ k) (sym e) ∙ pow-add 2 7 (width - 7) in
    let p = pow_pos (width - 7) in
    omega arith
