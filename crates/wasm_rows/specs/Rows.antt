-- Bytes in rows of sixteen, in the form of wabt's `wasm-objdump`.
use Rattle.std.specs.Prelude.{ℕ, zero, suc, ◌+◌, ◌*◌, ◌/◌, ◌%◌, ◌^◌, ltb, List, [], ◌∷◌, ◌++◌, length, take, drop, map, nat_lt, slice_index, codes, if◌then◌else◌}
use Rattle.wasm_text.specs.Rows.{offset_text}
use Rattle.wasm_text.specs.Values.{byte_text}

-- An address in hexadecimal, with at least seven digits.
abbrev pub address_text : ℕ → List ℕ
address_text address = if ltb address (2 ^ 24) then 48 ∷ offset_text address else offset_text address

-- The byte with this number in a row, in hexadecimal, or two spaces.
abbrev pub cell_text : List ℕ → ℕ → List ℕ
cell_text bytes n = if ltb n (length bytes) then byte_text (slice_index bytes n) else codes "  "

-- Two bytes of a row, of which the first has this number.
unfoldable pub pair_text : List ℕ → ℕ → List ℕ
pair_text bytes n = cell_text bytes n ++ (cell_text bytes (n + 1) ++ codes " ")

-- Four pairs of a row.
unfoldable pub half_text : List ℕ → ℕ → List ℕ
half_text bytes n = pair_text bytes n ++ (pair_text bytes (n + 2) ++ (pair_text bytes (n + 4) ++ pair_text bytes (n + 6)))

-- A byte as a printable ASCII character, or a point.
abbrev pub glyph : ℕ → ℕ
glyph byte = if nat_lt byte 32 then 46 else (if nat_lt byte 127 then byte else 46)

-- At most sixteen bytes in hexadecimal.
unfoldable pub columns_text : List ℕ → List ℕ
columns_text bytes = half_text bytes 0 ++ (half_text bytes 8 ++ codes " ")

-- At most sixteen bytes: what comes before, the address of the first, the bytes in hexadecimal and as
-- characters.
unfoldable pub row_text : List ℕ → ℕ → List ℕ → List ℕ
row_text before address bytes = before ++ (address_text address ++ (codes ": " ++ (columns_text bytes ++ (map glyph bytes ++ codes "\n"))))

-- Row `n` of bytes, of which the first has this address.
abbrev pub row_at : List ℕ → ℕ → List ℕ → ℕ → List ℕ
row_at before address bytes n = row_text before ((address + n * 16) % 2 ^ 64) (take 16 (drop (n * 16) bytes))

-- So many rows from row `n` on.
abbrev pub rows_from : ℕ → List ℕ → ℕ → List ℕ → ℕ → List ℕ
rows_from zero before address bytes n = []
rows_from (suc more) before address bytes n = row_at before address bytes n ++ rows_from more before address bytes (n + 1)

-- All rows of bytes, of which the first has this address. Each begins with `before`.
abbrev pub rows_text : List ℕ → ℕ → List ℕ → List ℕ
rows_text before address bytes = rows_from ((length bytes + 15) / 16) before address bytes 0
