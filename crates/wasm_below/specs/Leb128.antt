-- LEB128 numbers as the code reads them: continuation bytes, and then a last byte.
use Rattle.std.specs.Prelude.{◌≡◌, ℕ, ◌+◌, ◌-◌, ◌*◌, ◌/◌, ◌<◌, ◌≤◌, zero, suc, List, [], ◌∷◌, ◌++◌, length, drop, slice_index, ℤ, ltb}
use Rattle.wasm_below.specs.declared.long_numbers.Septets.{Septets}
use Rattle.wasm_below.specs.declared.long_numbers.NumberRefusal.{NumberRefusal}
use Rattle.wasm_below.specs.declared.long_numbers.NumberRefusal.TheVariants as refusal
use Rattle.wasm_below.specs.declared.message.Message.{Message}
use Rattle.wasm_below.specs.declared.message.Message.TheVariants as message
use Rattle.wasm_below.specs.declared.message.NumberName.{NumberName}
use Rattle.wasm_below.specs.Number.{with_sign}
use Rattle.wasm_below.specs.Source.{NoPrefix}

-- Each byte is a continuation byte.
abbrev pub AllGoOn : List ℕ → Type 0
AllGoOn [] = Unit {0}
AllGoOn (c ∷ text) = (128 ≤ c) × (c < 256) × AllGoOn text

-- The low seven bits of continuation bytes, as one number.
abbrev pub low_bits : List ℕ → ℕ
low_bits [] = 0
low_bits (c ∷ text) = 128 * low_bits text + (c - 128)

-- The signed number with these low bits and this last byte, whose lowest bit counts `unit`.
abbrev pub signed_value : ℕ → ℕ → ℕ → ℤ
signed_value low unit last = with_sign (ltb last 64) (low + last * unit) (128 * unit)

pub record OccursAt (buffer : List ℕ) (start after : ℕ) (text : List ℕ) : Type 0 where
  pub parts : drop start buffer ≡ text ++ drop after buffer
  pub ends : after ≡ start + length text

-- Septets, septets of seven bits, at `start`, in at most as many bytes as `width` allows.
pub record IsSeptets (buffer : List ℕ) (start width : ℕ) (septets : Septets) : Type 0 where
  pub text : List ℕ
  pub go_on : AllGoOn text
  pub low : septets.low ≡ low_bits text
  pub shift : septets.shift ≡ 7 * length text
  pub narrow : septets.shift < width
  pub small : septets.last < 128
  pub occurs : OccursAt buffer start septets.after (text ++ septets.last ∷ [])

-- Why there are no septets at `start`: the data ends in continuation bytes, or the last byte that
-- the width allows is one.
abbrev pub RefusesSeptets : NumberRefusal → ℕ → List ℕ → ℕ → Type 0
RefusesSeptets refusal.EndOfData width buffer start = AllGoOn (drop start buffer) × (length (drop start buffer) ≤ (width - 1) / 7)
RefusesSeptets refusal.TooLong width buffer start = (text after : List ℕ) × (c : ℕ) × AllGoOn text × (128 ≤ c) × (length text ≡ (width - 1) / 7) × (drop start buffer ≡ text ++ c ∷ after)
RefusesSeptets refusal.TooLarge width buffer start = ⊥

-- The bytes from `start` to `after` encode the number.
abbrev pub NumberAt : {X : Type 0} → (List ℕ → X → Type 0) → List ℕ → ℕ → X → ℕ → Type 0
NumberAt Encodes buffer start x after = (text : List ℕ) × Encodes text x × OccursAt buffer start after text

abbrev pub NeverBegins : {X : Type 0} → (List ℕ → X → Type 0) → List ℕ → Type 0
NeverBegins Encodes bytes = (more : List ℕ) → NoPrefix Encodes (bytes ++ more)

-- The greatest position of the last byte of a number of `width` bits that begins at `start`.
abbrev pub last_position : ℕ → ℕ → ℕ
last_position width start = start + (width - 1) / 7

-- Why no number of `width` bits is encoded at `start`.
abbrev pub NoNumber : {X : Type 0} → (List ℕ → X → Type 0) → NumberRefusal → ℕ → List ℕ → ℕ → Type 0
NoNumber Encodes refusal.EndOfData width buffer start = (length buffer ≤ last_position width start) × NoPrefix Encodes (drop start buffer)
NoNumber Encodes refusal.TooLong width buffer start = (last_position width start < length buffer) × (128 ≤ slice_index buffer (last_position width start)) × NeverBegins Encodes (drop start buffer)
NoNumber Encodes refusal.TooLarge width buffer start = (last_position width start < length buffer) × (slice_index buffer (last_position width start) < 128) × NeverBegins Encodes (drop start buffer)

abbrev pub refusal_message : NumberRefusal → NumberName → Message
refusal_message refusal.EndOfData name = message.EndOfData
refusal_message refusal.TooLong name = message.IntegerTooLong name
refusal_message refusal.TooLarge name = message.IntegerTooLarge name

abbrev pub refusal_offset : NumberRefusal → ℕ → ℕ → ℕ → ℕ
refusal_offset refusal.EndOfData width start end = end
refusal_offset _ width start end = last_position width start

abbrev pub HasPlace : NumberRefusal → ℕ → ℕ → ℕ → Type 0
HasPlace refusal.EndOfData width start end = Unit {0}
HasPlace _ width start end = last_position width start < end

abbrev pub refusal_of_code : ℕ → NumberRefusal
refusal_of_code zero = refusal.EndOfData
refusal_of_code (suc zero) = refusal.TooLong
refusal_of_code (suc (suc n)) = refusal.TooLarge
