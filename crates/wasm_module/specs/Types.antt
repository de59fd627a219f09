-- Specification: Binary Format, Lists; Types, Composite Types, Recursive Types.
use Rattle.std.specs.Prelude.{◌≡◌, ◌≢◌, ℕ, zero, suc, ◌⊎◌, List, [], ◌∷◌}
use Rattle.wasm_below.specs.declared.message.Message.{Message}
use Rattle.wasm_below.specs.Fault.{ThenFault, FaultAfter, ManyFault}
use Rattle.wasm_below.specs.Number.{EncodesUnsigned}
use Rattle.wasm_below.specs.Sequence.{Then}
use Rattle.wasm_below.specs.Source.{Reader, IsByte, EndFault, U32Fault}
use Rattle.wasm_below.specs.TypeEncoding.{EncodesValType, ValTypeFault}
use Rattle.wasm_module.specs.Both.{Both}
use Rattle.wasm_module.specs.Imports.{Skipped, SkipFault, SomeOf, IsNothing}
use Rattle.wasm_module.specs.declared.composite.CompositeType.{CompositeType}
use Rattle.wasm_module.specs.declared.composite.CompositeType.TheVariants as composite

abbrev pub IsMany : {X : Type 0} → (List ℕ → X → Type 0) → ℕ → Skipped
IsMany P zero = IsNothing
IsMany P (suc n) = Then P (λ x. IsMany P n)

-- `count` encodings of `P` in sequence. Of their values, only the number is kept.
--   list(X) ::= n:u32 (el:X)^n
abbrev pub EncodesCounted : {X : Type 0} → (List ℕ → X → Type 0) → ℕ → List ℕ → ℕ → Type 0
EncodesCounted P count text n = (n ≡ count) × IsMany P count text tt

-- A length `n`, and `n` encodings of `P`.
abbrev pub EncodesLength : {X : Type 0} → (List ℕ → X → Type 0) → List ℕ → ℕ → Type 0
EncodesLength P = Then (EncodesUnsigned 32) (EncodesCounted P)

-- The length's error, or an item's.
abbrev pub LengthFault : {X : Type 0} → (List ℕ → X → Type 0) → (Message → Reader → ℕ → Type 0) → Message → Reader → ℕ → Type 0
LengthFault P Fault = ThenFault (EncodesUnsigned 32) U32Fault (ManyFault P Fault)

-- A list of value types, whose number is kept.
--   resulttype ::= t*:list(valtype)
abbrev pub EncodesValueTypes : List ℕ → ℕ → Type 0
EncodesValueTypes = EncodesLength EncodesValType

abbrev pub ValueTypesFault : SkipFault
ValueTypesFault = LengthFault EncodesValType ValTypeFault

abbrev pub EncodesSignature : List ℕ → ℕ × ℕ → Type 0
EncodesSignature = Both EncodesValueTypes EncodesValueTypes

abbrev pub SignatureFault : SkipFault
SignatureFault = ThenFault EncodesValueTypes ValueTypesFault (λ parameters. ValueTypesFault)

-- packtype ::= 0x77 ⇒ i16 | 0x78 ⇒ i8
abbrev pub IsPackedByte : ℕ → Type 0
IsPackedByte byte = (byte ≡ 0x77) ⊎ (byte ≡ 0x78)

abbrev pub IsPacked : Skipped
IsPacked text done = (byte : ℕ) × IsPackedByte byte × (text ≡ byte ∷ [])

-- A storage type. Its error is the error of a value type.
--   storagetype ::= t:valtype | pt:packtype
abbrev pub IsStorage : Skipped
IsStorage text done = SomeOf EncodesValType text done ⊎ IsPacked text done

-- A storage type, and the byte of its mutability, which may have any value.
--   fieldtype ::= zt:storagetype mut:mut
abbrev pub IsField : Skipped
IsField = Then IsStorage (λ storage. SomeOf IsByte)

abbrev pub FieldFault : SkipFault
FieldFault = ThenFault IsStorage ValTypeFault (λ storage. EndFault)

abbrev pub EncodesFields : List ℕ → ℕ → Type 0
EncodesFields = EncodesLength IsField

abbrev pub FieldsFault : SkipFault
FieldsFault = LengthFault IsField FieldFault

-- The byte starts none of the three sorts of composite types.
abbrev pub IsOther : ℕ → Type 0
IsOther byte = (byte ≢ 0x60) × (byte ≢ 0x5f) × (byte ≢ 0x5e)

-- The bytes after the first byte of a composite type: none if that starts none of the three sorts.
--   comptype ::= 0x5E ft:fieldtype ⇒ array | 0x5F ft*:list(fieldtype) ⇒ struct | 0x60 t1*:resulttype t2*:resulttype ⇒ func
abbrev pub EncodesAfterByte : ℕ → List ℕ → CompositeType → Type 0
EncodesAfterByte byte text (composite.Function parameters results) = (byte ≡ 0x60) × EncodesSignature text (parameters, results)
EncodesAfterByte byte text (composite.Struct fields) = (byte ≡ 0x5f) × EncodesFields text fields
EncodesAfterByte byte text composite.Array = (byte ≡ 0x5e) × IsField text tt
EncodesAfterByte byte text (composite.Other kind) = IsOther byte × (kind ≡ byte) × IsNothing text tt

abbrev pub FaultAfterByte : ℕ → SkipFault
FaultAfterByte byte m r offset = ((byte ≡ 0x60) × SignatureFault m r offset) ⊎ (((byte ≡ 0x5f) × FieldsFault m r offset) ⊎ ((byte ≡ 0x5e) × FieldFault m r offset))

abbrev pub EncodesComposite : List ℕ → CompositeType → Type 0
EncodesComposite = Then IsByte EncodesAfterByte

abbrev pub CompositeFault : SkipFault
CompositeFault = ThenFault IsByte EndFault FaultAfterByte

-- The first byte of a type with supertypes: 0x4f if it is final, otherwise 0x50.
abbrev pub NamesSupertypes : ℕ → Type 0
NamesSupertypes byte = (byte ≡ 0x4f) ⊎ (byte ≡ 0x50)

-- A count and that many indices of supertypes. Only the count is kept.
abbrev pub EncodesIndices : List ℕ → ℕ → Type 0
EncodesIndices = EncodesLength (EncodesUnsigned 32)

abbrev pub IndicesFault : SkipFault
IndicesFault = LengthFault (EncodesUnsigned 32) U32Fault

abbrev pub EncodesWithSupertypes : List ℕ → CompositeType → Type 0
EncodesWithSupertypes = Then EncodesIndices (λ supertypes. EncodesComposite)

abbrev pub WithSupertypesFault : SkipFault
WithSupertypesFault = ThenFault EncodesIndices IndicesFault (λ supertypes. CompositeFault)

-- The bytes after the first byte of a sub type.
--   subtype ::= 0x4F x*:list(typeidx) ct:comptype | 0x50 x*:list(typeidx) ct:comptype | ct:comptype
abbrev pub EncodesSubAfterByte : ℕ → List ℕ → CompositeType → Type 0
EncodesSubAfterByte byte text ty = (NamesSupertypes byte × EncodesWithSupertypes text ty) ⊎ ((¬ NamesSupertypes byte) × EncodesAfterByte byte text ty)

abbrev pub SubFaultAfterByte : ℕ → SkipFault
SubFaultAfterByte byte m r offset = (NamesSupertypes byte × WithSupertypesFault m r offset) ⊎ ((¬ NamesSupertypes byte) × FaultAfterByte byte m r offset)

-- A composite type, after any supertypes' indices: the numbers of parameters and results, or of
-- fields, or an unknown first byte.
abbrev pub EncodesSubType : List ℕ → CompositeType → Type 0
EncodesSubType = Then IsByte EncodesSubAfterByte

-- The error of the first part in error.
abbrev pub SubTypeFault : SkipFault
SubTypeFault = ThenFault IsByte EndFault SubFaultAfterByte

-- The byte 0x4e and the number of sub types after it.
--   rectype ::= 0x4E st*:list(subtype) | st:subtype
abbrev pub EncodesRecTypeLength : List ℕ → ℕ → Type 0
EncodesRecTypeLength = Then IsByte (λ byte text n. (byte ≡ 0x4e) × EncodesUnsigned 32 text n)

-- The error of the number after the byte 0x4e.
abbrev pub RecTypeLengthFault : SkipFault
RecTypeLengthFault = FaultAfter IsByte (λ byte. U32Fault)
