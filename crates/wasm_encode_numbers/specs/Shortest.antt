-- The shortest LEB128 encodings.
-- Specification: Binary Format, Values, Integers.
use Rattle.std.specs.Prelude.{ℕ, zero, suc, ◌+◌, ◌-◌, ◌/◌, ◌%◌, ◌≤◌, Bool, true, false, List, [], ◌∷◌, length, ℤ, pos, ltb, cond}
use lib.IntN.{negsuc}

-- Seven bits a byte, the lowest first, up to the highest set bit; at most `more` bytes before the
-- last.
abbrev pub unsigned_septets : ℕ → ℕ → List ℕ
unsigned_septets zero n = n ∷ []
unsigned_septets (suc more) n = cond (ltb n 128) (n ∷ []) ((n % 128 + 128) ∷ unsigned_septets more (n / 128))

-- The shortest encoding of an unsigned number of at most 64 bits.
unfoldable pub unsigned_bytes : ℕ → List ℕ
unsigned_bytes n = unsigned_septets 9 n

-- Seven bits of a distance, complemented if the number is negative.
abbrev pub complemented : Bool → ℕ → ℕ
complemented true low = 127 - low
complemented false low = low

-- As `unsigned_septets`, with a sign. `n` is the distance from 0 or, of a negative number, from -1.
-- The last byte has six bits and the sign.
abbrev pub signed_septets : Bool → ℕ → ℕ → List ℕ
signed_septets negative zero n = complemented negative n ∷ []
signed_septets negative (suc more) n =
    cond (ltb n 64) (complemented negative n ∷ []) ((complemented negative (n % 128) + 128) ∷ signed_septets negative more (n / 128))

-- The number with this sign and distance.
abbrev pub signed_number : Bool → ℕ → ℤ
signed_number true n = negsuc n
signed_number false n = pos n

-- The shortest encoding of a signed number of at most 64 bits.
unfoldable pub signed_bytes : ℤ → List ℕ
signed_bytes (pos n) = signed_septets false 9 n
signed_bytes (negsuc n) = signed_septets true 9 n

-- No encoding of the value is shorter, at any width.
abbrev pub IsShortest : {X : Type 0} → (ℕ → List ℕ → X → Type 0) → List ℕ → X → Type 0
IsShortest Encodes text x = (width : ℕ) (other : List ℕ) → Encodes width other x → length text ≤ length other
