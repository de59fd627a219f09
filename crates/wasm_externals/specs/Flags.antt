use Rattle.std.specs.Prelude.{ℕ, ◌/◌, ◌%◌, ◌==◌, Bool, leb}
use Rattle.wasm_below.specs.declared.malformed.Malformed.{Malformed}
use Rattle.wasm_below.specs.declared.message.Message.TheVariants as message
use Rattle.wasm_grammars.specs.Grammar.{Grammar, done}
use Rattle.wasm_grammars.specs.Parts.{◌>>=◌, ◌>>◌, require, byte}

-- A byte of at most `limit`.
abbrev pub flags : ℕ → Malformed → Grammar ℕ
flags limit error = do
  b ← byte
  require (leb b limit) (message.Malformed error)
  done b

-- The byte has the bit of this weight.
abbrev pub has_flag : ℕ → ℕ → Bool
has_flag byte weight = byte / weight % 2 == 1
