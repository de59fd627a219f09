use Rattle.std.specs.Prelude.{◌≡◌, ℕ, zero, suc, ◌+◌, ◌<◌, ◌⊎◌, Bool, true, false, List, length, Result, Ok, Err, Option, Some, None}
use Rattle.wasm_below.specs.declared.error.Error.{Error}
use Rattle.wasm_below.specs.declared.message.Message.{Message}
use Rattle.wasm_below.specs.declared.message.Message.TheVariants as message
use Rattle.wasm_below.specs.declared.features.WasmFeatures.{WasmFeatures}
use Rattle.wasm_below.specs.Number.{EncodesUnsigned}
use Rattle.wasm_below.specs.Fault.{HasFault, ThenFault}
use Rattle.wasm_below.specs.Sequence.{Then}
use Rattle.wasm_below.specs.Source.{Reader, rest, offset_of, HasRead, Refuses, IsAhead, U32Fault, EndsWithin}

-- An error of a call from this reader that may allocate where `Memory` holds. `OutOfMemory` has the
-- reader's offset, and says nothing of the bytes.
pub record IsRefused {X : Type 0} (Encodes : List ℕ → X → Type 0) (Fault : Message → Reader → ℕ → Type 0) (Memory : Reader → Type 0) (e : Error) (old : Reader) : Type 0 where
  pub refuses : Refuses Encodes (rest old) e.message
  pub ahead : IsAhead old e.offset
  pub fault : HasFault Fault e old
  pub memory : e.message ≡ message.OutOfMemory → Memory old × (e.offset ≡ offset_of old)

-- Where reading a type may allocate.
abbrev pub AllocatesIf : Bool → (Reader → Type 0) → Reader → Type 0
AllocatesIf true Allocates r = Allocates r
AllocatesIf false Allocates r = ⊥

-- `Reads`, unless allocation fails.
abbrev pub ReadsValue : {X : Type 0} → (List ℕ → X → Type 0) → (Message → Reader → ℕ → Type 0) → (Reader → Type 0) → Result X Error → Reader → Reader → Type 0
ReadsValue Encodes Fault Memory (Ok x) old new = HasRead Encodes x old new
ReadsValue Encodes Fault Memory (Err e) old new = (new ≡ old) × IsRefused Encodes Fault Memory e old

-- A new reader of these `n` bytes, from any offset.
abbrev pub IsReaderOf : WasmFeatures → ℕ → List ℕ → Reader → Type 0
IsReaderOf features n text r = (r.features ≡ features) × (r.buffer ≡ text) × (r.position ≡ 0) × (length text ≡ n)

-- A u32, followed by that many bytes.
abbrev pub EncodesReader : WasmFeatures → List ℕ → Reader → Type 0
EncodesReader features = Then (EncodesUnsigned 32) (IsReaderOf features)

-- Features, bytes and position are equal.
abbrev pub SameReader : Reader → Reader → Type 0
SameReader r s = (r.features ≡ s.features) × (r.buffer ≡ s.buffer) × (r.position ≡ s.position)

-- The error of the u32, or `EndOfData` if fewer bytes follow.
abbrev pub ReaderFault : Message → Reader → ℕ → Type 0
ReaderFault m r offset = ThenFault (EncodesUnsigned 32) U32Fault EndsWithin m r offset

-- A step of an iterator from `before` to `after` items left. An error leaves none.
abbrev pub StepsItems : {X : Type 0} → (List ℕ → X → Type 0) → (Message → Reader → ℕ → Type 0) → (Reader → Type 0) → (Reader → X → Reader → Type 0) → ℕ → ℕ →
    Option (Result X Error) → Reader → Reader → Type 0
StepsItems Encodes Fault Memory Placed before after None old new = (before ≡ 0) × (after ≡ 0) × (new ≡ old)
StepsItems Encodes Fault Memory Placed before after (Some (Ok x)) old new = (before ≡ after + 1) × HasRead Encodes x old new × Placed old x new
StepsItems Encodes Fault Memory Placed before after (Some (Err e)) old new =
    (0 < before) × (after ≡ 0) × (new ≡ old) × IsRefused Encodes Fault Memory e old

-- Reading `n` values in order, up to the first error.
abbrev pub ReadsOn : {X : Type 0} → (List ℕ → X → Type 0) → (Message → Reader → ℕ → Type 0) → (Reader → Type 0) → ℕ → Reader → Reader → Type 0
ReadsOn Encodes Fault Memory zero old new = new ≡ old
ReadsOn {X} Encodes Fault Memory (suc n) old new =
    ((x : X) × (mid : Reader) × HasRead Encodes x old mid × ReadsOn Encodes Fault Memory n mid new) ⊎ ((e : Error) × (new ≡ old) × IsRefused Encodes Fault Memory e old)
