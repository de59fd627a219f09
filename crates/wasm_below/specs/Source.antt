-- Specification: Binary Format, Instructions.
use Rattle.std.specs.Prelude.{◌≡◌, ℕ, ◌+◌, ◌-◌, ◌/◌, ◌<◌, ◌≤◌, List, [], ◌∷◌, ◌++◌, length, drop, Result, Ok, Err, slice_index}
use Rattle.std.specs.Borrow.{Bor}
use Rattle.wasm_below.specs.Number.{EncodesUnsigned}
use Rattle.wasm_below.specs.declared.error.Error.{Error}
use Rattle.wasm_below.specs.declared.message.Message.{Message}
use Rattle.wasm_below.specs.declared.message.Message.TheVariants as message
use Rattle.wasm_below.specs.declared.features.WasmFeatures.{WasmFeatures}
use Rattle.wasm_below.specs.declared.message.NumberName.TheVariants as number_name
use Rattle.wasm_below.specs.declared.message.SizeName.{SizeName}
use Rattle.wasm_below.specs.Refusal.{IsReadFault, NamesNumber, NamesSize}

-- Features, the offset of the first byte, and the bytes.
pub record Source : Type 0 where
  pub features : WasmFeatures
  pub offset : ℕ
  pub bytes : List ℕ

-- Features, the offset of the first byte, all bytes, and how many are read.
pub record Reader : Type 0 where
  pub features : WasmFeatures
  pub start : ℕ
  pub buffer : List ℕ
  pub position : ℕ

-- The bytes that are left.
abbrev pub rest : Reader → List ℕ
rest r = drop r.position r.buffer

-- The offset of the next byte.
abbrev pub offset_of : Reader → ℕ
offset_of r = r.start + r.position

-- The offset of the end of the data.
abbrev pub end_of : Reader → ℕ
end_of r = r.start + length r.buffer

-- The rest, as a `Source`.
abbrev pub source_of : Reader → Source
source_of r = record { features = r.features; offset = offset_of r; bytes = rest r }

-- A new reader of these bytes.
abbrev pub reader_of : WasmFeatures → ℕ → List ℕ → Reader
reader_of features offset bytes = record { features = features; start = offset; buffer = bytes; position = 0 }

-- The reader with `position` bytes read.
abbrev pub at_position : Reader → ℕ → Reader
at_position r position = record { features = r.features; start = r.start; buffer = r.buffer; position = position }

-- The call read `text`, and changed only the position.
pub record Takes (old new : Reader) (text : List ℕ) : Type 0 where
  pub moved : new ≡ at_position old (old.position + length text)
  pub parts : rest old ≡ text ++ rest new

-- The reader with these features.
abbrev pub with_features : Reader → WasmFeatures → Reader
with_features r features = record { features = features; start = r.start; buffer = r.buffer; position = r.position }

-- The bytes start with this byte.
abbrev pub BeginsWith : ℕ → List ℕ → Type 0
BeginsWith byte bytes = (more : List ℕ) × (bytes ≡ byte ∷ more)

-- No prefix of the bytes encodes a value.
abbrev pub NoPrefix : {X : Type 0} → (List ℕ → X → Type 0) → List ℕ → Type 0
NoPrefix {X} Encodes bytes = (text more : List ℕ) (x : X) → Encodes text x → bytes ≡ text ++ more → ⊥

-- Some prefix of the bytes encodes a value.
abbrev pub SomePrefix : {X : Type 0} → (List ℕ → X → Type 0) → List ℕ → Type 0
SomePrefix {X} Encodes bytes = (text more : List ℕ) × (x : X) × Encodes text x × (bytes ≡ text ++ more)

-- The bytes after the data to which `Refuses` applies: none after `EndOfData`, otherwise any. It
-- claims nothing of `OutOfMemory`.
abbrev pub MayFollow : Message → List ℕ → Type 0
MayFollow message.EndOfData more = more ≡ []
MayFollow message.OutOfMemory more = ⊥
MayFollow _ more = Unit {0}

-- No prefix of the bytes encodes a value; if the message is not `EndOfData`, whatever bytes follow.
-- `OutOfMemory` claims nothing.
abbrev pub Refuses : {X : Type 0} → (List ℕ → X → Type 0) → List ℕ → Message → Type 0
Refuses Encodes bytes m = (more : List ℕ) → MayFollow m more → NoPrefix Encodes (bytes ++ more)

-- The offset is in the rest, or at its end.
abbrev pub IsAhead : Reader → ℕ → Type 0
IsAhead r offset = (offset_of r ≤ offset) × (offset ≤ end_of r)

-- An error from this reader: `Refuses`, `IsReadFault` and `IsAhead` hold.
pub record IsRefusal {X : Type 0} (Encodes : List ℕ → X → Type 0) (e : Error) (old : Reader) : Type 0 where
  pub refuses : Refuses Encodes (rest old) e.message
  pub fault : IsReadFault e.message
  pub ahead : IsAhead old e.offset

-- A prefix of the rest encodes the value, and is consumed.
abbrev pub HasRead : {X : Type 0} → (List ℕ → X → Type 0) → X → Reader → Reader → Type 0
HasRead Encodes x old new = (text : List ℕ) × Encodes text x × Takes old new text

-- `Ok` if and only if a prefix of the rest encodes a value, which is returned and consumed. On
-- `Err`, the reader is unchanged, and the error has this fault.
abbrev pub Reads : {X : Type 0} → (List ℕ → X → Type 0) → (Message → Reader → ℕ → Type 0) → Result X Error → Reader → Reader → Type 0
Reads Encodes Fault (Ok x) old new = HasRead Encodes x old new
Reads Encodes Fault (Err e) old new = (new ≡ old) × IsRefusal Encodes e old × Fault e.message old e.offset

-- One byte.
abbrev pub IsByte : List ℕ → ℕ → Type 0
IsByte text byte = (text ≡ byte ∷ []) × (byte < 256)

-- A block of `n` bytes.
abbrev pub IsBlock : ℕ → List ℕ → Bor (List ℕ) → Type 0
IsBlock n text block = (block.now ≡ text) × (length text ≡ n)

-- No byte is left: `EndOfData` at the position. `IsEndHere` takes an `Error`.
abbrev pub EndFault : Message → Reader → ℕ → Type 0
EndFault m r offset = (m ≡ message.EndOfData) × (offset ≡ offset_of r) × (offset_of r ≡ end_of r)

abbrev pub IsEndHere : Error → Reader → Type 0
IsEndHere e r = EndFault e.message r e.offset

-- Fewer than `n` bytes are left: `EndOfData` at the position.
abbrev pub EndsWithin : ℕ → Message → Reader → ℕ → Type 0
EndsWithin n m r offset = (m ≡ message.EndOfData) × (offset ≡ offset_of r) × (end_of r < offset_of r + n)

-- `EndsWithin` of an `Error`.
abbrev pub IsShort : ℕ → Error → Reader → Type 0
IsShort n e r = EndsWithin n e.message r e.offset

abbrev pub byte_at : Reader → ℕ → ℕ
byte_at r offset = slice_index r.buffer (offset - r.start)

-- The greatest offset of the last byte of a number of `width` bits at the reader.
abbrev pub last_offset : ℕ → Reader → ℕ
last_offset width r = offset_of r + (width - 1) / 7

-- `EndOfData` before the last byte that the width allows; there, `IntegerTooLong` (a continuation
-- byte) or `IntegerTooLarge` (a bit beyond the width).
abbrev pub NumberFault : Message → ℕ → Reader → ℕ → Type 0
NumberFault message.EndOfData width r offset = (offset ≡ end_of r) × (end_of r ≤ last_offset width r)
NumberFault (message.IntegerTooLong _) width r offset = (offset ≡ last_offset width r) × (128 ≤ byte_at r offset) × (offset < end_of r)
NumberFault (message.IntegerTooLarge _) width r offset = (offset ≡ last_offset width r) × (byte_at r offset < 128) × (offset < end_of r)
NumberFault _ width r offset = ⊥

-- `NumberFault` with `IntegerTooLong` in place of `IntegerTooLarge`.
abbrev pub TooLongFault : Message → ℕ → Reader → ℕ → Type 0
TooLongFault message.EndOfData width r offset = (offset ≡ end_of r) × (end_of r ≤ last_offset width r)
TooLongFault (message.IntegerTooLong _) width r offset = (offset ≡ last_offset width r) × (offset < end_of r)
TooLongFault _ width r offset = ⊥

-- The error of a number of this kind.
abbrev pub U32Fault : Message → Reader → ℕ → Type 0
U32Fault m r offset = NumberFault m 32 r offset × NamesNumber number_name.VarU32 m

abbrev pub U64Fault : Message → Reader → ℕ → Type 0
U64Fault m r offset = NumberFault m 64 r offset × NamesNumber number_name.VarU64 m

abbrev pub I32Fault : Message → Reader → ℕ → Type 0
I32Fault m r offset = NumberFault m 32 r offset × NamesNumber number_name.VarI32 m

abbrev pub S33Fault : Message → Reader → ℕ → Type 0
S33Fault m r offset = TooLongFault m 33 r offset × NamesNumber number_name.VarS33 m

abbrev pub I64Fault : Message → Reader → ℕ → Type 0
I64Fault m r offset = NumberFault m 64 r offset × NamesNumber number_name.VarI64 m

abbrev pub as_too_long : Message → Message
as_too_long (message.IntegerTooLarge kind) = message.IntegerTooLong kind
as_too_long m = m

-- A prefix of the bytes encodes a u32 above `limit`.
abbrev pub BeginsAbove : ℕ → List ℕ → Type 0
BeginsAbove limit bytes = (text more : List ℕ) × (n : ℕ) × EncodesUnsigned 32 text n × (limit < n) × (bytes ≡ text ++ more)

-- The count at the reader is above `limit`, or no prefix encodes a u32.
abbrev pub SizeFault : Message → ℕ → Reader → ℕ → Type 0
SizeFault (message.SizeOutOfBounds _) limit r offset = (offset ≡ offset_of r) × BeginsAbove limit (rest r)
SizeFault m limit r offset = NumberFault m 32 r offset × NoPrefix (EncodesUnsigned 32) (rest r)

-- `Reads`, but the error's offset may be before the reader, from `start` on.
abbrev pub ReadsFrom : {X : Type 0} → ℕ → (List ℕ → X → Type 0) → (Message → Reader → ℕ → Type 0) → Result X Error → Reader → Reader → Type 0
ReadsFrom start Encodes Fault (Ok x) old new = HasRead Encodes x old new
ReadsFrom start Encodes Fault (Err e) old new =
    (new ≡ old) × Refuses Encodes (rest old) e.message × IsReadFault e.message × (start ≤ e.offset) × (e.offset ≤ end_of old) × Fault e.message old e.offset

-- Above `limit`, `SizeOutOfBounds` with the list's name; without a u32, its error.
abbrev pub CountFault : SizeName → ℕ → Message → Reader → ℕ → Type 0
CountFault name limit m r offset = SizeFault m limit r offset × NamesSize name m × NamesNumber number_name.VarU32 m
