-- In the form of wabt's `wasm-objdump -d`.
use Rattle.std.specs.Prelude.{ℕ, zero, suc, ◌+◌, ◌-◌, ◌*◌, ◌/◌, ◌%◌, ◌^◌, ltb, false, List, [], ◌∷◌, ◌++◌, length, take, drop, codes, flat_map, if◌then◌else◌}
use Rattle.std.specs.Fmt.{radix_digits}
use Rattle.std.specs.List.{repeat}
use Rattle.wasm_text.specs.Values.{byte_text, spaced_byte}

-- An offset in hexadecimal, with at least six digits.
abbrev pub offset_text : ℕ → List ℕ
offset_text offset =
    if ltb offset (2 ^ 24)
    then byte_text (offset / 2 ^ 16) ++ (byte_text (offset / 2 ^ 8 % 2 ^ 8) ++ byte_text (offset % 2 ^ 8))
    else radix_digits 16 false offset

-- An address, at most nine bytes, three spaces per missing byte, a bar.
abbrev pub column : ℕ → List ℕ → List ℕ
column offset bytes =
    (codes " " ++ (offset_text offset ++ codes ":")) ++ (flat_map spaced_byte bytes ++ (repeat (9 - length bytes) (codes "   ") ++ codes " | "))

-- The address and bytes of row `n` of the bytes at an offset.
abbrev pub row : ℕ → List ℕ → ℕ → List ℕ
row offset bytes n = column (offset + n * 9) (take 9 (drop (n * 9) bytes))

abbrev pub rows_from : ℕ → ℕ → List ℕ → ℕ → List ℕ
rows_from zero offset bytes n = []
rows_from (suc more) offset bytes n = row offset bytes n ++ (10 ∷ rows_from more offset bytes (n + 1))

-- The first row at an offset, and two spaces for each open construct. `line_end` follows the text.
abbrev pub line_begin : ℕ → ℕ → List ℕ → List ℕ
line_begin depth offset bytes = row offset bytes 0 ++ repeat depth (codes "  ")

abbrev pub line_end : ℕ → List ℕ → List ℕ
line_end offset bytes = 10 ∷ rows_from ((length bytes - 1) / 9) offset bytes 1

abbrev pub line_of : ℕ → ℕ → List ℕ → List ℕ → List ℕ
line_of depth offset bytes text = line_begin depth offset bytes ++ (text ++ line_end offset bytes)
