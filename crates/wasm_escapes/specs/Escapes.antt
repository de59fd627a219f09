use Rattle.std.specs.Prelude.{◌≢◌, ◌==◌, ◌<◌, ◌≤◌, ℕ, ◌/◌, ◌%◌, false, List, [], ◌∷◌, nat_lt, flat_map, if◌then◌else◌}
use Rattle.std.specs.Fmt.{digit_glyph}
use Rattle.std.specs.List.{All}
use Rattle.std.specs.Str.{is_utf8}

-- A backslash and two hexadecimal digits, as in the strings of the text format.
abbrev pub escape : ℕ → List ℕ
escape byte = 92 ∷ digit_glyph false (byte / 16) ∷ digit_glyph false (byte % 16) ∷ []

-- A byte as shown in UTF-8: 0x7f and bytes below 0x20 are escaped.
abbrev pub utf8_byte : ℕ → List ℕ
utf8_byte byte = if nat_lt byte 32 then escape byte else (if byte == 127 then escape byte else byte ∷ [])

-- A byte as shown in ASCII: bytes from 0x80 on are escaped too.
abbrev pub ascii_byte : ℕ → List ℕ
ascii_byte byte = if nat_lt byte 32 then escape byte else (if nat_lt byte 127 then byte ∷ [] else escape byte)

-- A name as shown in UTF-8.
abbrev pub utf8_name : List ℕ → List ℕ
utf8_name name = flat_map utf8_byte name

-- A name as shown in UTF-8 if that is possible, otherwise in ASCII.
abbrev pub escaped : List ℕ → List ℕ
escaped name = if is_utf8 (utf8_name name) then utf8_name name else flat_map ascii_byte name

-- A byte that is no control character.
abbrev pub IsShown : ℕ → Type 0
IsShown byte = (32 ≤ byte) × (byte ≢ 127)

-- The bytes of a name.
abbrev pub AreBytes : List ℕ → Type 0
AreBytes name = All (λ byte. byte < 256) name
