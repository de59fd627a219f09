use Rattle.std.proofs.Common.{◌≡◌, ℕ, ◌-◌, ◌<◌, List, [], ◌∷◌, ◌++◌, length, ℤ, pos, ◌*ℤ◌, ◌+ℤ◌, sym, ap, ◌∙◌, arith, refl}
use Rattle.wasm_below.specs.Number.{EncodesUnsigned, EncodesSigned, EncodesFixed, EncodesSize}
use Rattle.std.specs.Int.{w32, w64, from_le_bytes}
use Rattle.std.proofs.lemmas.Nat.{from_le_bytes-to_le_bytes_4, from_le_bytes-to_le_bytes_8}
use Rattle.wasm_below.specs.Sequence.{PrefixCode}
use Rattle.wasm_below.specs.Source.{IsByte}

pub unsigned_prefix_code : (a b : List ℕ) (width : ℕ) (x y : List ℕ) (m n : ℕ) → EncodesUnsigned width a m → EncodesUnsigned width b n → a ++ x ≡ b ++ y →
    (a ≡ b) × (m ≡ n)
unsigned_prefix_code [] b width x y m n p q e = absurd p
unsigned_prefix_code (c ∷ a) [] width x y m n p q e = absurd q
unsigned_prefix_code (c ∷ []) (d ∷ []) width x y m n p q e = (cc (e), p.1 ∙ cc e ∙ sym q.1)
unsigned_prefix_code (c ∷ []) (d ∷ d2 ∷ b) width x y m n p q e = let h : c ≡ d = cc e in absurd (omega (arith, p.0, q.1))
unsigned_prefix_code (c ∷ c2 ∷ a) (d ∷ []) width x y m n p q e = let h : c ≡ d = cc e in absurd (omega (arith, p.1, q.0))
unsigned_prefix_code (c ∷ c2 ∷ a) (d ∷ d2 ∷ b) width x y m n (_, _, _, high, p, pr) (_, _, _, high2, q, qr) e =
    let h : c ≡ d = cc e in
    let r = unsigned_prefix_code (c2 ∷ a) (d2 ∷ b) (width - 7) x y high high2 pr qr (cc e) in
    let same : high ≡ high2 = r.1 in
    (cc (h, r.0), omega arith)

pub signed_prefix_code : (a b : List ℕ) (width : ℕ) (x y : List ℕ) (m n : ℤ) → EncodesSigned width a m → EncodesSigned width b n → a ++ x ≡ b ++ y →
    (a ≡ b) × (m ≡ n)
signed_prefix_code [] b width x y m n p q e = absurd p
signed_prefix_code (c ∷ a) [] width x y m n p q e = absurd q
signed_prefix_code (c ∷ []) (d ∷ []) width x y m n p q e = let h : c ≡ d = cc e in (cc, cc (p.1, q.1, h))
signed_prefix_code (c ∷ []) (d ∷ d2 ∷ b) width x y m n p q e = let h : c ≡ d = cc e in absurd (omega (arith, p.0, q.1))
signed_prefix_code (c ∷ c2 ∷ a) (d ∷ []) width x y m n p q e = let h : c ≡ d = cc e in absurd (omega (arith, p.1, q.0))
signed_prefix_code (c ∷ c2 ∷ a) (d ∷ d2 ∷ b) width x y m n (_, _, _, high, p, pr) (_, _, _, high2, q, qr) e =
    let h : c ≡ d = cc e in
    let r = signed_prefix_code (c2 ∷ a) (d2 ∷ b) (width - 7) x y high high2 pr qr (cc e) in
    (cc (h, r.0), p ∙ ap (λ z. (pos 128 *ℤ z) +ℤ pos (c - 128)) r.1 ∙ ap (λ z. (pos 128 *ℤ high2) +ℤ pos (z - 128)) h ∙ sym q)

pub signed_some : (text : List ℕ) (width : ℕ) (n : ℤ) → EncodesSigned width text n → 0 < length text
signed_some [] width n p = absurd p
signed_some (c ∷ text) width n p = omega arith

prefixes : {A : Type 0} (a b x y : List A) → length a ≡ length b → a ++ x ≡ b ++ y → a ≡ b
prefixes [] [] x y n e = refl
prefixes [] (d ∷ b) x y n e = absurd (omega (arith, n))
prefixes (c ∷ a) [] x y n e = absurd (omega (arith, n))
prefixes (c ∷ a) (d ∷ b) x y n e =
    let head : c ≡ d = cc e in
    let tail : a ≡ b = prefixes a b x y (omega (arith, n)) (cc e) in
    cc

pub fixed_prefix_code_32 : PrefixCode (EncodesFixed w32)
fixed_prefix_code_32 a b x y m n p q e =
    let same : a ≡ b = prefixes a b x y (ap length p.0 ∙ sym (ap length q.0)) e in
    (same, sym (from_le_bytes-to_le_bytes_4 m p.1) ∙ ap (from_le_bytes w32) (sym p.0 ∙ same ∙ q.0) ∙ from_le_bytes-to_le_bytes_4 n q.1)

pub fixed_prefix_code_64 : PrefixCode (EncodesFixed w64)
fixed_prefix_code_64 a b x y m n p q e =
    let same : a ≡ b = prefixes a b x y (ap length p.0 ∙ sym (ap length q.0)) e in
    (same, sym (from_le_bytes-to_le_bytes_8 m p.1) ∙ ap (from_le_bytes w64) (sym p.0 ∙ same ∙ q.0) ∙ from_le_bytes-to_le_bytes_8 n q.1)

pub size_prefix_code : (limit : ℕ) → PrefixCode (EncodesSize limit)
size_prefix_code limit a b x y m n p q e = unsigned_prefix_code a b 32 x y m n p.0 q.0 e

pub first_byte : (a b x y : List ℕ) (c d : ℕ) → a ≡ c ∷ [] → b ≡ d ∷ [] → a ++ x ≡ b ++ y → c ≡ d
first_byte a b x y c d ea eb e = let whole : c ∷ x ≡ d ∷ y = ap (λ z. z ++ x) (sym ea) ∙ e ∙ ap (λ z. z ++ y) eb in cc whole

pub byte_prefix_code : PrefixCode IsByte
byte_prefix_code a b x y m n p q e = let same = first_byte a b x y m n p.0 q.0 e in (p.0 ∙ ap (λ z. z ∷ []) same ∙ sym q.0, same)
