-- Specification: Text Format, Values, Floating-Point; Numerics, Representations.
use Rattle.std.specs.Prelude.{◌==◌, ℕ, ◌-◌, ◌*◌, ◌/◌, ◌%◌, ◌^◌, ltb, false, List, [], ◌∷◌, ◌++◌, codes, decimal, if◌then◌else◌, zero, suc}
use Rattle.std.specs.Fmt.{digit_glyph, radix_digits}

-- The hexadecimal digits of a fraction of 52 bits, without the zeros at the end.
abbrev pub fraction_digits : ℕ → ℕ → List ℕ
fraction_digits zero fraction = []
fraction_digits (suc n) fraction = if fraction == 0 then [] else digit_glyph false (fraction / 2 ^ 48) ∷ fraction_digits n (fraction % 2 ^ 48 * 16)

-- A point and `fraction_digits`; nothing for the fraction 0.
abbrev pub fraction_text : ℕ → List ℕ
fraction_text fraction = if fraction == 0 then [] else 46 ∷ fraction_digits 13 fraction

-- The exponent of two, `biased` less `bias`, with its sign.
abbrev pub exponent_text : ℕ → ℕ → List ℕ
exponent_text biased bias = if ltb biased bias then codes "p-" ++ decimal (bias - biased) else codes "p+" ++ decimal (biased - bias)

-- A finite number by its biased exponent and its fraction of 52 bits. A subnormal number has
-- integer part 0 and exponent `1 - bias`.
abbrev pub finite_text : ℕ → ℕ → ℕ → List ℕ
finite_text bias biased fraction =
    if biased == 0
    then (if fraction == 0 then codes "0x0p+0" else codes "0x0" ++ (fraction_text fraction ++ exponent_text 1 bias))
    else codes "0x1" ++ (fraction_text fraction ++ exponent_text biased bias)

-- A NaN, with its payload unless that is the canonical one.
abbrev pub nan_text : ℕ → ℕ → List ℕ
nan_text canonical payload = if payload == canonical then codes "nan" else codes "nan:0x" ++ radix_digits 16 false payload

-- Infinity if the payload is 0, otherwise a NaN.
abbrev pub special_text : ℕ → ℕ → List ℕ
special_text canonical payload = if payload == 0 then codes "inf" else nan_text canonical payload

-- The space before a float, and its sign if that is negative.
abbrev pub space_and_sign : ℕ → List ℕ
space_and_sign sign = if sign == 0 then codes " " else codes " -"

-- The float of a sign bit, 8 exponent bits and 23 fraction bits.
abbrev pub float_32_text : ℕ → List ℕ
float_32_text bits = space_and_sign (bits / 2 ^ 31) ++ (if bits / 2 ^ 23 % 2 ^ 8 == 255 then special_text (2 ^ 22) (bits % 2 ^ 23) else finite_text 127 (bits / 2 ^ 23 % 2 ^ 8) (bits % 2 ^ 23 * 2 ^ 29))

abbrev pub float_64_text : ℕ → List ℕ
float_64_text bits = space_and_sign (bits / 2 ^ 63) ++ (if bits / 2 ^ 52 % 2 ^ 11 == 2047 then special_text (2 ^ 51) (bits % 2 ^ 52) else finite_text 1023 (bits / 2 ^ 52 % 2 ^ 11) (bits % 2 ^ 52))
