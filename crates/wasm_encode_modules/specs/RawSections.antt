-- Sections as their ids and the bytes of their contents.
-- Specification: Binary Format, Modules, Sections.
use Rattle.std.specs.Prelude.{◌≡◌, ℕ, ◌<◌, ◌⊎◌, List, ◌∷◌, length, leb}
use Rattle.wasm_below.specs.declared.malformed.Malformed.TheVariants as malformed
use Rattle.wasm_below.specs.declared.message.Message.{Message}
use Rattle.wasm_below.specs.declared.message.Message.TheVariants as message
use Rattle.wasm_grammars.specs.Blocks.{sized}
use Rattle.wasm_grammars.specs.Grammar.{Grammar, done, thing}
use Rattle.wasm_grammars.specs.Parts.{◌>>=◌, ◌>>◌, require, byte}
use Rattle.wasm_write_grammars.specs.Writing.{SizedReason}

-- The id of a section, and its contents.
pub record RawSection : Type 0 where
  pub id : ℕ
  pub bytes : List ℕ

-- An id, the size of the contents, and the contents. `raw_sections` says that these are the
-- encodings of sections.
--   section_N(X) ::= N:byte len:u32 en*:X
abbrev pub raw_section : Grammar RawSection
raw_section = do
  id ← byte
  require (leb id 127) (message.Malformed malformed.SectionId)
  bytes ← thing sized
  done (record { id = id; bytes = bytes })

-- The id is above 127, or there are too many bytes.
abbrev pub SectionReason : RawSection → Message → Type 0
SectionReason s m = ((m ≡ message.Malformed malformed.SectionId) × (127 < s.id)) ⊎ SizedReason s.bytes m

-- Contents with which a section begins as a module does, if its id and its size are right.
abbrev pub BeginsSo : List ℕ → Type 0
BeginsSo bytes = (more : List ℕ) × (bytes ≡ 0x73 ∷ 0x6d ∷ more)

-- The encoding of the section begins as a module does: a custom section of 97 bytes, and the size of
-- its name is 115.
abbrev pub BeginsAsModule : RawSection → Type 0
BeginsAsModule s = (s.id ≡ 0) × (length s.bytes ≡ 97) × BeginsSo s.bytes
