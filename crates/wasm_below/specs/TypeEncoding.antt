-- Specification: Binary Format, Types; the bytes 0x62 (exact), 0x65 (shared), 0x68 (cont) and 0x75
-- (nocont): proposals.
use Rattle.std.specs.Prelude.{◌≡◌, ◌≢◌, ℕ, ◌+◌, ◌≤◌, ◌⊎◌, Bool, true, false, List, [], ◌∷◌, pos}
use Rattle.wasm_below.specs.declared.message.Message.{Message}
use Rattle.wasm_below.specs.declared.message.Message.TheVariants as message
use Rattle.wasm_below.specs.declared.message.TypeName.{TypeName}
use Rattle.wasm_below.specs.declared.message.TypeName.TheVariants as type_name
use Rattle.wasm_below.specs.declared.types.AbstractHeapType.{AbstractHeapType}
use Rattle.wasm_below.specs.declared.types.AbstractHeapType.TheVariants as ty
use Rattle.wasm_below.specs.declared.types.HeapType.{HeapType}
use Rattle.wasm_below.specs.declared.types.HeapType.TheVariants as heap
use Rattle.wasm_below.specs.declared.types.ValType.{ValType}
use Rattle.wasm_below.specs.declared.types.ValType.TheVariants as value
use Rattle.wasm_below.specs.Reference.{Reference, max_type_index}
use Rattle.wasm_below.specs.Number.{EncodesUnsigned, EncodesSigned}
use Rattle.wasm_below.specs.Source.{Reader, rest, offset_of, end_of, at_position, BeginsWith, U32Fault, S33Fault}
use Rattle.wasm_below.specs.Fault.{ThenFault}

-- The byte that encodes the type if it is not shared.
abbrev pub heap_type_byte : AbstractHeapType → ℕ
heap_type_byte ty.NoCont = 0x75
heap_type_byte ty.NoExn = 0x74
heap_type_byte ty.NoFunc = 0x73
heap_type_byte ty.NoExtern = 0x72
heap_type_byte ty.None = 0x71
heap_type_byte ty.Func = 0x70
heap_type_byte ty.Extern = 0x6f
heap_type_byte ty.Any = 0x6e
heap_type_byte ty.Eq = 0x6d
heap_type_byte ty.I31 = 0x6c
heap_type_byte ty.Struct = 0x6b
heap_type_byte ty.Array = 0x6a
heap_type_byte ty.Exn = 0x69
heap_type_byte ty.Cont = 0x68

-- The byte of an abstract heap type, after the byte 0x65 if it is shared.
--   absheaptype ::= 0x69 ⇒ exn | 0x6A ⇒ array | 0x6B ⇒ struct | 0x6C ⇒ i31 | 0x6D ⇒ eq | 0x6E ⇒ any | 0x6F ⇒ extern
--                 | 0x70 ⇒ func | 0x71 ⇒ none | 0x72 ⇒ noextern | 0x73 ⇒ nofunc | 0x74 ⇒ noexn
abbrev pub EncodesShort : List ℕ → HeapType → Type 0
EncodesShort text (heap.Abstract false ty) = text ≡ heap_type_byte ty ∷ []
EncodesShort text (heap.Abstract true ty) = text ≡ 0x65 ∷ heap_type_byte ty ∷ []
EncodesShort text _ = ⊥

-- A type index within the limit, as a signed number.
abbrev pub EncodesConcrete : List ℕ → HeapType → Type 0
EncodesConcrete text (heap.Concrete index) = EncodesSigned 33 text (pos index) × (index ≤ max_type_index)
EncodesConcrete text _ = ⊥

abbrev pub EncodesExact : List ℕ → HeapType → Type 0
EncodesExact text (heap.Exact index) = (after : List ℕ) × (text ≡ 0x62 ∷ after) × EncodesUnsigned 32 after index × (index ≤ max_type_index)
EncodesExact text _ = ⊥

-- A short form, a type index, or the byte 0x62 and a type index.
--   heaptype ::= absheaptype | x33:s33 ⇒ x33, if x33 ≥ 0
abbrev pub EncodesHeapType : List ℕ → HeapType → Type 0
EncodesHeapType text (heap.Abstract shared ty) = EncodesShort text (heap.Abstract shared ty)
EncodesHeapType text (heap.Concrete index) = EncodesConcrete text (heap.Concrete index)
EncodesHeapType text (heap.Exact index) = EncodesExact text (heap.Exact index)

abbrev pub ref_byte : Bool → ℕ
ref_byte true = 0x63
ref_byte false = 0x64

abbrev pub EncodesShortRef : List ℕ → Reference → Type 0
EncodesShortRef text r = (r.nullable ≡ true) × EncodesShort text r.heap_type

abbrev pub EncodesLongRef : List ℕ → Reference → Type 0
EncodesLongRef text r = (after : List ℕ) × (text ≡ ref_byte r.nullable ∷ after) × EncodesHeapType after r.heap_type

-- A short form, or a heap type after the byte 0x63 or 0x64.
--   reftype ::= 0x63 ht:heaptype ⇒ ref null ht | 0x64 ht:heaptype ⇒ ref ht | ht:absheaptype ⇒ ref null ht
abbrev pub EncodesRefType : List ℕ → Reference → Type 0
EncodesRefType text r = EncodesShortRef text r ⊎ EncodesLongRef text r

-- numtype ::= 0x7C ⇒ f64 | 0x7D ⇒ f32 | 0x7E ⇒ i64 | 0x7F ⇒ i32 vectype ::= 0x7B ⇒ v128
abbrev pub EncodesNumberType : List ℕ → ValType → Type 0
EncodesNumberType text value.I32 = text ≡ 0x7f ∷ []
EncodesNumberType text value.I64 = text ≡ 0x7e ∷ []
EncodesNumberType text value.F32 = text ≡ 0x7d ∷ []
EncodesNumberType text value.F64 = text ≡ 0x7c ∷ []
EncodesNumberType text value.V128 = text ≡ 0x7b ∷ []
EncodesNumberType text (value.Ref r) = ⊥

-- A number type, a vector type or a reference type.
--   valtype ::= numtype | vectype | reftype
abbrev pub EncodesValType : List ℕ → ValType → Type 0
EncodesValType text (value.Ref r) = EncodesRefType text r
EncodesValType text ty = EncodesNumberType text ty

abbrev pub after_byte : Reader → Reader
after_byte r = at_position r (r.position + 1)

-- The bytes that a short form can start with.
abbrev pub LeadsShort : ℕ → Type 0
LeadsShort byte = (0x65 ≤ byte) × (byte ≤ 0x75) × (byte ≢ 0x66) × (byte ≢ 0x67)

-- The bytes that a reference type can start with.
abbrev pub LeadsRefType : ℕ → Type 0
LeadsRefType byte = (0x63 ≤ byte) × (byte ≤ 0x75) × (byte ≢ 0x66) × (byte ≢ 0x67)

abbrev pub IsCutShort : List ℕ → Type 0
IsCutShort bytes = (bytes ≡ []) ⊎ (bytes ≡ 0x65 ∷ [])

-- The data ends at the start or after the byte 0x65, or the bytes are no short form; the message
-- names the type.
abbrev pub ShortFault : TypeName → Message → Reader → ℕ → Type 0
ShortFault name message.EndOfData r offset = (offset ≡ end_of r) × IsCutShort (rest r)
ShortFault name (message.InvalidType what) r offset = (what ≡ name) × (offset ≡ offset_of r) × (¬ IsCutShort (rest r))
ShortFault name _ r offset = ⊥

-- The data ends, or the byte is no number type; the message names the type.
abbrev pub ByteFault : TypeName → Message → Reader → ℕ → Type 0
ByteFault name message.EndOfData r offset = (offset ≡ end_of r) × (rest r ≡ [])
ByteFault name (message.InvalidType what) r offset = (what ≡ name) × (offset ≡ offset_of r) × (rest r ≢ [])
ByteFault name _ r offset = ⊥

-- The index of a heap type at the reader `begin` is negative or above 1048575: `InvalidType` at
-- `begin`.
abbrev pub NoIndex : Reader → Message → Reader → ℕ → Type 0
NoIndex begin m r offset = (m ≡ message.InvalidType type_name.HeapType) × (offset ≡ offset_of begin)

-- The error of a heap type that starts with 0x62: of the u32 after this byte, or, if that is above
-- 1048575, `InvalidType` at 0x62.
abbrev pub ExactFault : Message → Reader → ℕ → Type 0
ExactFault m r offset = ThenFault (EncodesUnsigned 32) U32Fault (λ n. NoIndex r) m (after_byte r) offset

abbrev pub ConcreteFault : Message → Reader → ℕ → Type 0
ConcreteFault m r offset = ThenFault (EncodesSigned 33) S33Fault (λ n. NoIndex r) m r offset

abbrev pub LedBy : (ℕ → Type 0) → List ℕ → Type 0
LedBy Leads bytes = (byte : ℕ) × Leads byte × BeginsWith byte bytes

-- By the first byte, the error of an index after 0x62, a short form, or a signed index.
abbrev pub HeapTypeFault : Message → Reader → ℕ → Type 0
HeapTypeFault m r offset = (BeginsWith 0x62 (rest r) × ExactFault m r offset) ⊎ ((LedBy LeadsShort (rest r) × ShortFault type_name.HeapType m r offset) ⊎ ((¬ BeginsWith 0x62 (rest r)) × (¬ LedBy LeadsShort (rest r)) × ConcreteFault m r offset))

-- By the first byte, the error of a heap type after it or of a short form.
abbrev pub RefTypeFault : Message → Reader → ℕ → Type 0
RefTypeFault m r offset = ((nullable : Bool) × BeginsWith (ref_byte nullable) (rest r) × HeapTypeFault m (after_byte r) offset) ⊎ (((nullable : Bool) → BeginsWith (ref_byte nullable) (rest r) → ⊥) × ShortFault type_name.ReferenceType m r offset)

-- By the first byte, the error of a reference type or of a type of one byte.
abbrev pub ValTypeFault : Message → Reader → ℕ → Type 0
ValTypeFault m r offset = ((byte : ℕ) × LeadsRefType byte × BeginsWith byte (rest r) × RefTypeFault m r offset) ⊎ (((byte : ℕ) → LeadsRefType byte → BeginsWith byte (rest r) → ⊥) × ByteFault type_name.ValueType m r offset)
