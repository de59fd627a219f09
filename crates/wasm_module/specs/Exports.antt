-- Specification: Binary Format, Modules: Indices, Export Section.
use Rattle.std.specs.Prelude.{ℕ, List}
use Rattle.wasm_below.specs.declared.message.Message.{Message}
use Rattle.wasm_below.specs.Fault.{ThenFault}
use Rattle.wasm_below.specs.Number.{EncodesUnsigned}
use Rattle.wasm_below.specs.Source.{Reader, IsByte, EndFault, U32Fault}
use Rattle.wasm_module.specs.Both.{Both}
use Rattle.wasm_module.specs.Names.{EncodesName, NameFault}

pub record ExportParts : Type 0 where
  pub name : List ℕ
  pub kind : ℕ
  pub index : ℕ

-- The byte of a kind, with any value, followed by an index.
--   externidx ::= 0x00 x:funcidx | 0x01 x:tableidx | 0x02 x:memidx | 0x03 x:globalidx | 0x04 x:tagidx
abbrev pub EncodesExternIndex : List ℕ → ℕ × ℕ → Type 0
EncodesExternIndex = Both IsByte (EncodesUnsigned 32)

abbrev pub ExternIndexFault : Message → Reader → ℕ → Type 0
ExternIndexFault = ThenFault IsByte EndFault (λ kind. U32Fault)

-- A name, the byte of a kind, and an index.
--   export ::= nm:name xx:externidx
abbrev pub EncodesExport : List ℕ → ExportParts → Type 0
EncodesExport text e = Both EncodesName EncodesExternIndex text (e.name, (e.kind, e.index))

-- The error of the first part in error.
abbrev pub ExportFault : Message → Reader → ℕ → Type 0
ExportFault = ThenFault EncodesName NameFault (λ name. ExternIndexFault)
