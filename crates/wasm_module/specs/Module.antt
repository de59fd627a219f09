-- Specification: Binary Format, Modules.
use Rattle.std.specs.Prelude.{◌==◌, ℕ, List, if◌then◌else◌}
use Rattle.std.specs.Int.{w32}
use Rattle.wasm_below.specs.declared.features.WasmFeatures.{WasmFeatures}
use Rattle.wasm_below.specs.declared.message.Message.{Message}
use Rattle.wasm_below.specs.Fault.{ThenFault}
use Rattle.wasm_below.specs.FromReader.{EncodesReader, ReaderFault}
use Rattle.wasm_below.specs.Number.{EncodesFixed}
use Rattle.wasm_below.specs.Source.{Reader, IsByte, EndFault, EndsWithin}
use Rattle.wasm_module.specs.Both.{Both}
use Rattle.wasm_module.specs.declared.preamble.Preamble.{Preamble}
use Rattle.wasm_module.specs.declared.preamble.PreambleKind.{PreambleKind}
use Rattle.wasm_module.specs.declared.preamble.PreambleKind.TheVariants as kind

-- The magic number and the version, little-endian.
--   magic ::= 0x00 0x61 0x73 0x6d    version ::= 0x01 0x00 0x00 0x00
abbrev pub EncodesPreamble : List ℕ → Preamble → Type 0
EncodesPreamble text p = Both (EncodesFixed w32) (EncodesFixed w32) text (p.magic, p.version)

-- The kind of binary. A component (component model proposal) has version 13 and layer 1.
abbrev pub preamble_kind : Preamble → PreambleKind
preamble_kind p =
    if p.magic == 0x6d736100
    then (if p.version == 1 then kind.Module else if p.version == 0x1000d then kind.Component else kind.OtherVersion)
    else kind.NotWasm

-- A section: its number and a reader of its contents.
pub record SectionParts : Type 0 where
  pub id : ℕ
  pub contents : Reader

-- A section's number, and the length and bytes of its contents.
--   section_N(X) ::= N:byte len:u32 en*:X
abbrev pub EncodesSection : WasmFeatures → List ℕ → SectionParts → Type 0
EncodesSection features text s = Both IsByte (EncodesReader features) text (s.id, s.contents)

-- The data ends within the magic number or the version.
abbrev pub PreambleFault : Message → Reader → ℕ → Type 0
PreambleFault = ThenFault (EncodesFixed w32) (EndsWithin 4) (λ magic. EndsWithin 4)

-- The number is missing, length in error, or contents incomplete.
abbrev pub SectionFault : Message → Reader → ℕ → Type 0
SectionFault = ThenFault IsByte EndFault (λ id. ReaderFault)
