-- Specification: Binary Format, Values, Integers.
use Rattle.std.specs.Prelude.{◌≡◌, ℕ, ◌+◌, ◌-◌, ◌*◌, ◌<◌, ◌≤◌, ◌^◌, Bool, true, false, List, [], ◌∷◌, ℤ, pos, ◌+ℤ◌, ◌-ℤ◌, ◌*ℤ◌, neg_ℤ, ◌≤ℤ◌, ◌<ℤ◌, ltb}
use Rattle.std.specs.Int.{Width, byte_len, to_le_bytes}

-- An unsigned LEB128 number of at most `width` bits.
--   uN ::= n:byte ⇒ n, if n < 2^7 and n < 2^N  |  n:byte m:u(N-7) ⇒ 2^7·m + (n - 2^7), if n ≥ 2^7 and N > 7
abbrev pub EncodesUnsigned : ℕ → List ℕ → ℕ → Type 0
EncodesUnsigned width [] n = ⊥
EncodesUnsigned width (c ∷ []) n = (c < 128) × (n ≡ c) × (n < 2 ^ width)
EncodesUnsigned width (c ∷ d ∷ bytes) n = (7 < width) × (128 ≤ c) × (c < 256) × (high : ℕ) × (n + 128 ≡ 128 * high + c) × EncodesUnsigned (width - 7) (d ∷ bytes) high

-- Bits as a signed number: n in the lower half, otherwise n minus `whole`.
abbrev pub with_sign : Bool → ℕ → ℕ → ℤ
with_sign true n whole = pos n
with_sign false n whole = pos n -ℤ pos whole

-- The signed value of a last byte: bit 6 is the sign.
abbrev pub last_value : ℕ → ℤ
last_value c = with_sign (ltb c 64) c 128

abbrev pub FitsWidth : ℕ → ℤ → Type 0
FitsWidth width n = (neg_ℤ (pos (2 ^ (width - 1))) ≤ℤ n) × (n <ℤ pos (2 ^ (width - 1)))

-- A signed LEB128 number of at most `width` bits.
--   sN ::= n:byte ⇒ n, if n < 2^6 and n < 2^(N-1)  |  n:byte ⇒ n - 2^7, if 2^6 ≤ n < 2^7 and n ≥ 2^7 - 2^(N-1)
--        |  n:byte i:s(N-7) ⇒ 2^7·i + (n - 2^7), if n ≥ 2^7 and N > 7
abbrev pub EncodesSigned : ℕ → List ℕ → ℤ → Type 0
EncodesSigned width [] n = ⊥
EncodesSigned width (c ∷ []) n = (c < 128) × (n ≡ last_value c) × FitsWidth width n
EncodesSigned width (c ∷ d ∷ bytes) n = (7 < width) × (128 ≤ c) × (c < 256) × (high : ℤ) × (n ≡ (pos 128 *ℤ high) +ℤ pos (c - 128)) × EncodesSigned (width - 7) (d ∷ bytes) high

-- A count: a u32 of at most `limit`.
abbrev pub EncodesSize : ℕ → List ℕ → ℕ → Type 0
EncodesSize limit text n = EncodesUnsigned 32 text n × (n ≤ limit)

-- The little-endian bytes of a number of this width.
--   fN ::= b^(N/8):byte* ⇒ bytes_fN^-1(b*)
abbrev pub EncodesFixed : Width → List ℕ → ℕ → Type 0
EncodesFixed width text n = (text ≡ to_le_bytes width n) × (n < 2 ^ (8 * byte_len width))
