-- Specification: Binary Format, Limits, Global Types.
use Rattle.std.specs.Prelude.{ℕ, ◌+◌, Bool, true, false}

abbrev pub bit : Bool → ℕ → ℕ
bit true weight = weight
bit false weight = 0

-- The byte with these flags, of the weights 1, 2, 4 and 8.
abbrev pub flag_byte : Bool → Bool → Bool → Bool → ℕ
flag_byte a b c d = bit a 1 + bit b 2 + bit c 4 + bit d 8
