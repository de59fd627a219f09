-- Specification: Binary Format, Modules, Sections.
use Rattle.std.specs.Prelude.{ℕ, leb}
use Rattle.wasm_below.specs.declared.features.WasmFeatures.{WasmFeatures}
use Rattle.wasm_below.specs.declared.message.Message.TheVariants as message
use Rattle.wasm_below.specs.declared.malformed.Malformed.TheVariants as malformed
use Rattle.wasm_below.specs.Source.{Reader}
use Rattle.wasm_grammars.specs.Blocks.{contents}
use Rattle.wasm_grammars.specs.Grammar.{Grammar, done, here, thing}
use Rattle.wasm_grammars.specs.Parts.{◌>>=◌, ◌>>◌, require, byte, u32}
use Rattle.wasm_sections.specs.declared.section.SectionHeader.{SectionHeader}

-- The id of a section, and a reader of its contents.
pub record SectionParts : Type 0 where
  pub id : ℕ
  pub contents : Reader

-- The size of a section's contents, and their place.
abbrev pub header_after : ℕ → Grammar SectionHeader
header_after id = do
  size ← u32
  start ← here
  done (record { id = id; size = size; start = start })

-- The id of a section, the size of its contents, and their place.
abbrev pub header : Grammar SectionHeader
header = do
  id ← byte
  require (leb id 127) (message.Malformed malformed.SectionId)
  header_after id

-- A section, as its id and a reader of its contents.
--   section_N(X) ::= N:byte len:u32 en*:X
abbrev pub section : WasmFeatures → Grammar SectionParts
section features = do
  h ← thing header
  c ← thing (contents features h.size)
  done (record { id = h.id; contents = c })
