-- Specification: Binary Format, Names.
use Rattle.std.specs.Prelude.{ℕ, List, leb}
use Rattle.std.specs.Str.{is_utf8}
use Rattle.wasm_below.specs.declared.malformed.Malformed.TheVariants as malformed
use Rattle.wasm_below.specs.declared.message.Message.TheVariants as message
use Rattle.wasm_grammars.specs.Blocks.{block}
use Rattle.wasm_grammars.specs.Grammar.{Grammar, done, thing}
use Rattle.wasm_grammars.specs.Parts.{◌>>=◌, ◌>>◌, require_last, u32_where}

-- The greatest number of bytes of a text: a limit of wasmparser, not of the specification.
abbrev pub max_text_size : ℕ
max_text_size = 100000

abbrev pub text_size : Grammar ℕ
text_size = u32_where (λ n. leb n max_text_size) (message.Malformed malformed.StringSize)

-- A text, as the list of its bytes. Law `utf8_law`: `is_utf8` holds if and only if the bytes are the
-- encodings of characters (scalar values), one after the other.
--   name ::= b*:list(byte) ⇒ name, if utf8(name) = b*
abbrev pub text : Grammar (List ℕ)
text = do
  n ← thing text_size
  bytes ← block n
  require_last (is_utf8 bytes) (message.Malformed malformed.Utf8)
  done bytes
