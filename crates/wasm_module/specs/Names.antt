-- Specification: Binary Format, Values, Names; Modules, Custom Section; Appendix, Custom Sections,
-- Name Section.
use Rattle.std.specs.Prelude.{◌≡◌, ℕ, List, length}
use Rattle.wasm_below.specs.declared.message.Message.{Message}
use Rattle.wasm_below.specs.Fault.{ThenFault}
use Rattle.wasm_below.specs.Number.{EncodesUnsigned}
use Rattle.wasm_below.specs.Sequence.{Then}
use Rattle.wasm_below.specs.Source.{Reader, EndsWithin, U32Fault}
use Rattle.wasm_module.specs.Both.{Both}

abbrev pub IsBytes : ℕ → List ℕ → List ℕ → Type 0
IsBytes n text bytes = (bytes ≡ text) × (length text ≡ n)

-- A length, and that many bytes, UTF-8 or not.
--   name ::= b*:list(byte)
abbrev pub EncodesName : List ℕ → List ℕ → Type 0
EncodesName = Then (EncodesUnsigned 32) IsBytes

-- The length is in error, or the data ends within the bytes.
abbrev pub NameFault : Message → Reader → ℕ → Type 0
NameFault = ThenFault (EncodesUnsigned 32) U32Fault EndsWithin

pub record CustomParts : Type 0 where
  pub name : List ℕ
  pub contents : Reader

pub record NameParts : Type 0 where
  pub index : ℕ
  pub name : List ℕ

-- An index, followed by its name.
--   nameassoc ::= idx name
abbrev pub EncodesNameAssociation : List ℕ → NameParts → Type 0
EncodesNameAssociation text a = Both (EncodesUnsigned 32) EncodesName text (a.index, a.name)

-- The error of the index, or of the name.
abbrev pub NameAssociationFault : Message → Reader → ℕ → Type 0
NameAssociationFault = ThenFault (EncodesUnsigned 32) U32Fault (λ index. NameFault)
