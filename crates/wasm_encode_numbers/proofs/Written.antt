-- From the bytes of a number to what was written.
use Rattle.std.proofs.Common.{◌≡◌, ℕ, ℤ, pos, ◌<◌, ◌≤◌, ◌^◌, List, [], ◌∷◌, ◌++◌, length, refl, arith, Bool, false}
use Rattle.wasm_below.specs.Number.{EncodesUnsigned, EncodesSigned, FitsWidth}
use Rattle.wasm_encode_numbers.specs.Appended.{Appends}
use Rattle.wasm_encode_numbers.specs.Shortest.{unsigned_bytes, signed_bytes, signed_septets, complemented}
use Rattle.wasm_encode_numbers.proofs.Unsigned.{encodes, shortest, last_septet, power_le}
use Rattle.wasm_encode_numbers.proofs.Signed.{signed_encodes, signed_shortest, last_signed}

pub short_unsigned : (n : ℕ) → n < 128 → unsigned_bytes n ≡ n ∷ []
unfolding unsigned_bytes
short_unsigned n lt = last_septet 9 n lt

pub short_signed : (negative : Bool) (n : ℕ) → n < 64 → signed_septets negative 9 n ≡ complemented negative n ∷ []
short_signed negative n lt = last_signed negative 9 n lt

pub index_bytes : (n : ℕ) → signed_septets false 9 n ≡ signed_bytes (pos n)
unfolding signed_bytes
index_bytes n = refl

pub unsigned_encodes : (width n : ℕ) → width ≤ 64 → n < 2 ^ width → EncodesUnsigned width (unsigned_bytes n) n
unfolding unsigned_bytes
unsigned_encodes width n le lt = let p = power_le width 64 le in encodes 9 width n (omega (arith, p, lt)) lt

pub unsigned_shortest : (n width : ℕ) (other : List ℕ) → EncodesUnsigned width other n → length (unsigned_bytes n) ≤ length other
unfolding unsigned_bytes
unsigned_shortest n width other p = shortest other 9 width n p

pub unsigned_written : (width n : ℕ) (old new : List ℕ) → width ≤ 64 → n < 2 ^ width → new ≡ old ++ unsigned_bytes n → Appends (EncodesUnsigned width) n old new
unsigned_written width n old new le lt e =
    record { text = unsigned_bytes n; appended = e; encodes = unsigned_encodes width n le lt; shortest = unsigned_shortest n width }

pub signed_written : (width : ℕ) (n : ℤ) (old new : List ℕ) → 0 < width → width ≤ 64 → FitsWidth width n → new ≡ old ++ signed_bytes n → Appends (EncodesSigned width) n old new
signed_written width n old new some le fits e =
    record { text = signed_bytes n; appended = e; encodes = signed_encodes width n some le fits; shortest = signed_shortest n width }
