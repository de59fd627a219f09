-- Of an import's type, only the kind is kept. Specification: Binary Format, Types; Modules, Import
-- Section.
use Rattle.std.specs.Prelude.{◌≡◌, ◌≢◌, ℕ, zero, suc, ◌%◌, ◌⊎◌, List, []}
use Rattle.wasm_below.specs.declared.message.Message.{Message}
use Rattle.wasm_below.specs.Fault.{ThenFault}
use Rattle.wasm_below.specs.Number.{EncodesUnsigned}
use Rattle.wasm_below.specs.Sequence.{Then}
use Rattle.wasm_below.specs.Source.{Reader, IsByte, EndFault, U32Fault, U64Fault}
use Rattle.wasm_below.specs.TypeEncoding.{EncodesRefType, EncodesValType, RefTypeFault, ValTypeFault}
use Rattle.wasm_module.specs.Both.{Both}
use Rattle.wasm_module.specs.Names.{EncodesName, NameFault}

abbrev pub Skipped : Type 1
Skipped = List ℕ → Unit {0} → Type 0

abbrev pub SkipFault : Type 1
SkipFault = Message → Reader → ℕ → Type 0

abbrev pub SomeOf : {X : Type 0} → (List ℕ → X → Type 0) → Skipped
SomeOf {X} Encodes text done = (x : X) × Encodes text x

abbrev pub IsNothing : Skipped
IsNothing text done = text ≡ []

abbrev pub IsMost : ℕ → Skipped
IsMost flags text done = ((flags % 2 ≡ 1) × SomeOf (EncodesUnsigned 64) text done) ⊎ ((flags % 2 ≢ 1) × IsNothing text done)

abbrev pub MostFault : ℕ → SkipFault
MostFault flags m r offset = (flags % 2 ≡ 1) × U64Fault m r offset

-- What follows `flags`: only the flags' lowest bit matters.
--   limits ::= 0x00 n:u64 | 0x01 n:u64 m:u64 | 0x04 n:u64 | 0x05 n:u64 m:u64
abbrev pub IsBounds : ℕ → Skipped
IsBounds flags = Then (EncodesUnsigned 64) (λ least. IsMost flags)

abbrev pub IsLimits : Skipped
IsLimits = Then IsByte IsBounds

abbrev pub BoundsFault : ℕ → SkipFault
BoundsFault flags = ThenFault (EncodesUnsigned 64) U64Fault (λ least. MostFault flags)

abbrev pub LimitsFault : SkipFault
LimitsFault = ThenFault IsByte EndFault BoundsFault

-- tabletype ::= rt:reftype lim:limits
abbrev pub IsTable : Skipped
IsTable = Then EncodesRefType (λ ty. IsLimits)

abbrev pub TableFault : SkipFault
TableFault = ThenFault EncodesRefType RefTypeFault (λ ty. LimitsFault)

-- A value type, and the byte of its mutability, with any value.
--   globaltype ::= t:valtype mut:mut      mut ::= 0x00 | 0x01
abbrev pub IsGlobal : Skipped
IsGlobal = Then EncodesValType (λ ty. SomeOf IsByte)

abbrev pub GlobalFault : SkipFault
GlobalFault = ThenFault EncodesValType ValTypeFault (λ ty. EndFault)

-- A byte, with any value, and the index of a type.
--   tagtype ::= 0x00 x:typeidx
abbrev pub IsTag : Skipped
IsTag = Then IsByte (λ attribute. SomeOf (EncodesUnsigned 32))

abbrev pub TagFault : SkipFault
TagFault = ThenFault IsByte EndFault (λ attribute. U32Fault)

-- The bytes after the byte of a kind: none if the standard has no such kind.
--   externtype ::= 0x00 x:typeidx | 0x01 tt:tabletype | 0x02 mt:memtype | 0x03 gt:globaltype | 0x04 jt:tagtype
abbrev pub IsExternTypeAfterByte : ℕ → Skipped
IsExternTypeAfterByte zero = SomeOf (EncodesUnsigned 32)
IsExternTypeAfterByte (suc zero) = IsTable
IsExternTypeAfterByte (suc (suc zero)) = IsLimits
IsExternTypeAfterByte (suc (suc (suc zero))) = IsGlobal
IsExternTypeAfterByte (suc (suc (suc (suc zero)))) = IsTag
IsExternTypeAfterByte _ = IsNothing

abbrev pub ExternTypeFaultAfterByte : ℕ → SkipFault
ExternTypeFaultAfterByte zero = U32Fault
ExternTypeFaultAfterByte (suc zero) = TableFault
ExternTypeFaultAfterByte (suc (suc zero)) = LimitsFault
ExternTypeFaultAfterByte (suc (suc (suc zero))) = GlobalFault
ExternTypeFaultAfterByte (suc (suc (suc (suc zero)))) = TagFault
ExternTypeFaultAfterByte _ = λ m r offset. ⊥

abbrev pub EncodesExternTypeAfterByte : ℕ → List ℕ → ℕ → Type 0
EncodesExternTypeAfterByte byte text kind = (kind ≡ byte) × IsExternTypeAfterByte byte text tt

abbrev pub EncodesExternType : List ℕ → ℕ → Type 0
EncodesExternType = Then IsByte EncodesExternTypeAfterByte

abbrev pub ExternTypeFault : SkipFault
ExternTypeFault = ThenFault IsByte EndFault ExternTypeFaultAfterByte

pub record ImportParts : Type 0 where
  pub module_name : List ℕ
  pub name : List ℕ
  pub kind : ℕ

abbrev pub EncodesNamed : List ℕ → List ℕ × ℕ → Type 0
EncodesNamed = Both EncodesName EncodesExternType

abbrev pub NamedFault : SkipFault
NamedFault = ThenFault EncodesName NameFault (λ name. ExternTypeFault)

-- The names of module and import, the byte of a kind, and, if the standard has that kind, a type.
--   import ::= nm1:name nm2:name xt:externtype
abbrev pub EncodesImport : List ℕ → ImportParts → Type 0
EncodesImport text i = Both EncodesName EncodesNamed text (i.module_name, (i.name, i.kind))

-- The error of the first part in error.
abbrev pub ImportFault : SkipFault
ImportFault = ThenFault EncodesName NameFault (λ module_name. NamedFault)
