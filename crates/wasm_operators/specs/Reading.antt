-- The definitions take the decoder as a record. So they serve reads, visits, and visits without
-- SIMD operators.
use Rattle.std.specs.Prelude.{◌≡◌, ℕ, ◌+◌, ◌*◌, ◌<◌, ◌≤◌, List, [], ◌∷◌, ◌++◌, length, Some, Result, Ok, Err, ◌⊎◌}
use Rattle.wasm_below.specs.declared.error.Error.{Error}
use Rattle.wasm_below.specs.declared.features.WasmFeatures.{WasmFeatures}
use Rattle.wasm_below.specs.declared.message.Message.{Message}
use Rattle.wasm_below.specs.declared.message.Message.TheVariants as message
use Rattle.wasm_below.specs.Source.{Reader, rest, offset_of, Takes, Refuses, IsAhead, BeginsWith}
use Rattle.wasm_grammar.specs.declared.frame_kind.FrameKind.{FrameKind}
use Rattle.wasm_grammar.specs.declared.frame_kind.FrameKind.TheVariants as frame
use Rattle.wasm_grammar.specs.Frames.{frames_after, frames_along, innermost, OpensFrame}
use Rattle.wasm_instr.specs.declared.operator.Operator.{Operator}
use Rattle.wasm_instr.specs.Roles.{role_of, roles_of, change_at}
use Rattle.wasm_operators.specs.Expression.{Placed, OfPlaced, operators, LaidOut}
use Rattle.wasm_operators.specs.Openings.{opened_by, opened_along, most_open}
use Rattle.wasm_operators.specs.Stack.{frame_memory, IsLittleMemory}

-- Which operators are read, in a frame of this kind.
abbrev pub Taking : Type 1
Taking = WasmFeatures → FrameKind → List ℕ → Operator → Type 0

-- When a read fails with which message, at which offset.
abbrev pub Refusing : Type 1
Refusing = WasmFeatures → FrameKind → Message → Reader → ℕ → Type 0

-- The reader of the bytes, the open frames, the outermost first, and the capacity for more.
pub record State : Type 0 where
  pub reader : Reader
  pub frames : List FrameKind
  pub room : ℕ

-- The states in which allocation may fail.
abbrev pub Allocating : Type 1
Allocating = State → Type 0

-- Which operators are decoded, with which errors, where allocation may fail, and the lists that
-- drivers decode.
pub record Decoder : Type 1 where
  pub Encodes : Taking
  pub Fault : Refusing
  pub Allocates : Allocating
  pub Kept : OfPlaced

-- Only the frame of the expression is open.
abbrev pub IsFresh : State → Type 0
IsFresh s = s.frames ≡ frame.Block ∷ []

-- After reading `bytes` bytes, there is space for at most max(m, 2 * f + bytes + 10) frames:
-- before, there was space for m, and f were open.
abbrev pub GrowsLittle : ℕ → State → State → Type 0
GrowsLittle bytes old new =
    IsLittleMemory (frame_memory old.frames old.room) (length old.frames) (bytes + 10) (frame_memory new.frames new.room)

-- The memory of the frames has not shrunk.
abbrev pub KeepsMemory : State → State → Type 0
KeepsMemory old new = frame_memory old.frames old.room ≤ frame_memory new.frames new.room

-- The memory has space for the most frames that were open at once along these operators.
abbrev pub HoldsMostOpen : State → Placed → State → Type 0
HoldsMostOpen old placed new = most_open (Some old.frames) placed ≤ frame_memory new.frames new.room + 1

-- The next opcode opens a frame inside others, without capacity for it. What follows it may be in
-- error.
abbrev pub FrameMayAllocate : Allocating
FrameMayAllocate s = (kind : FrameKind) × (innermost s.frames ≡ Some kind) × (byte : ℕ) × BeginsWith byte (rest s.reader) × OpensFrame (change_at byte) × (s.room ≡ 0)

-- The memory of the frames at least doubles.
abbrev pub DoublesMemory : State → State → Type 0
DoublesMemory old new = 2 * frame_memory old.frames old.room ≤ frame_memory new.frames new.room

-- The memory of the frames stays as it is; or the next operator opens a frame without capacity for
-- it, and the memory at least doubles.
abbrev pub GrowsForFrame : State → State → Type 0
GrowsForFrame old new = (frame_memory new.frames new.room ≡ frame_memory old.frames old.room) ⊎ (FrameMayAllocate old × DoublesMemory old new)

-- The memory of the frames stays as it is; or the frames that are open at once along these operators
-- fill it, and it at least doubles.
abbrev pub GrowsForFrames : State → Placed → State → Type 0
GrowsForFrames old placed new =
    (frame_memory new.frames new.room ≡ frame_memory old.frames old.room) ⊎
    ((frame_memory old.frames old.room < most_open (Some old.frames) placed) × DoublesMemory old new)

-- Only the capacity may have grown, within `GrowsLittle`, and as `GrowsForFrame` says.
abbrev pub IsUnchanged : State → State → Type 0
IsUnchanged old new =
    (new.reader ≡ old.reader) × (new.frames ≡ old.frames) × (old.room ≤ new.room) × GrowsLittle 0 old new × GrowsForFrame old new

-- The readers are at one place, with the same frames.
abbrev pub SameReaderAndFrames : State → State → Type 0
SameReaderAndFrames first second = (second.reader ≡ first.reader) × (second.frames ≡ first.frames)

-- The next operator, which the innermost frame allows, was read. The frames follow its role, and
-- only opening a frame uses capacity.
pub record TakesOperator (Encodes : Taking) (op : Operator) (old new : State) : Type 0 where
  pub kind : FrameKind
  pub open_frame : innermost old.frames ≡ Some kind
  pub text : List ℕ
  pub encodes : Encodes old.reader.features kind text op
  pub takes : Takes old.reader new.reader text
  pub frames : frames_after old.frames (role_of op) ≡ Some new.frames
  pub room : old.room ≤ new.room + opened_by op
  pub memory : GrowsLittle 0 old new
  pub kept : KeepsMemory old new
  pub grows : GrowsForFrame old new

abbrev pub NoFrameOpen : Error → State → Type 0
NoFrameOpen e s = (s.frames ≡ []) × (e.message ≡ message.OperatorsRemaining) × (e.offset ≡ offset_of s.reader)

-- No operator of `Encodes` is next; the error describes the bytes.
pub record IsRefusedThere (Encodes : Taking) (Fault : Refusing) (e : Error) (s : State) : Type 0 where
  pub kind : FrameKind
  pub open_frame : innermost s.frames ≡ Some kind
  pub refuses : Refuses (Encodes s.reader.features kind) (rest s.reader) e.message
  pub ahead : IsAhead s.reader e.offset
  pub fault : Fault s.reader.features kind e.message s.reader e.offset

-- Allocation failed, as it may in this state.
abbrev pub NoMemory : Allocating → Error → State → Type 0
NoMemory Allocates e s = (e.message ≡ message.OutOfMemory) × (e.offset ≡ offset_of s.reader) × Allocates s

-- Allocation may fail in every state.
abbrev pub Anywhere : Allocating
Anywhere s = Unit {0}

-- No frame is open, no operator can be read, or allocation fails.
abbrev pub StopsRead : Decoder → Error → State → Type 0
StopsRead decoder e s = NoFrameOpen e s ⊎ (IsRefusedThere decoder.Encodes decoder.Fault e s ⊎ NoMemory decoder.Allocates e s)

-- The call reads the next operator; or it fails, and only the capacity may have grown.
abbrev pub ReadsOperator : Decoder → Result Operator Error → State → State → Type 0
ReadsOperator decoder (Ok op) old new = TakesOperator decoder.Encodes op old new
ReadsOperator decoder (Err e) old new = IsUnchanged old new × StopsRead decoder e new

-- As `ReadsOperator`, with a visit of the operator. On `Err` the visitor is unchanged.
abbrev pub VisitsOperator : {V A : Type 0} → (V → Operator → A → V → Type 0) → Decoder → Result A Error → State → State → V → V → Type 0
VisitsOperator visits decoder (Ok a) old new before after = (op : Operator) × TakesOperator decoder.Encodes op old new × visits before op a after
VisitsOperator visits decoder (Err e) old new before after = IsUnchanged old new × (after ≡ before) × StopsRead decoder e new

-- These operators were read, one after another.
pub record TakesOperators (old new : State) (placed : Placed) : Type 0 where
  pub text : List ℕ
  pub takes : Takes old.reader new.reader text
  pub laid : LaidOut old.reader.features (offset_of old.reader) text placed
  pub frames : frames_along old.frames (roles_of (operators placed)) ≡ Some new.frames
  pub room : old.room ≤ new.room + opened_along placed
  pub memory : GrowsLittle (length text) old new
  pub kept : KeepsMemory old new
  pub deepest : HoldsMostOpen old placed new
  pub grows : GrowsForFrames old placed new

-- Why finishing returns this message, at the reader's position.
abbrev pub StopsFinish : Message → Type 0 → Reader → Type 0
StopsFinish message.FramesRemain Closed r = Closed → ⊥
StopsFinish message.UnexpectedData Closed r = Closed × (rest r ≡ [] → ⊥)
StopsFinish _ Closed r = ⊥

-- `Ok` if and only if the frames are closed, as `Closed` says, and all data was read.
abbrev pub EndsExpression : {X : Type 0} → Result X Error → Type 0 → Reader → Type 0
EndsExpression (Ok x) Closed r = Closed × (rest r ≡ [])
EndsExpression (Err e) Closed r = (e.offset ≡ offset_of r) × StopsFinish e.message Closed r

-- `Ok` if and only if no frame is open and all data was read. An error is at the position.
abbrev pub Finishes : {X : Type 0} → Result X Error → State → Type 0
Finishes result s = EndsExpression result (s.frames ≡ []) s.reader

-- All data was read, and a frame is open.
abbrev pub FramesLeft : Error → State → Type 0
FramesLeft e s = (rest s.reader ≡ []) × (s.frames ≡ [] → ⊥) × (e.message ≡ message.FramesRemain) × (e.offset ≡ offset_of s.reader)

-- Frames are open at the end of the data; or data is left, and a read fails.
abbrev pub StopsRun : Decoder → Error → State → Type 0
StopsRun decoder e s = FramesLeft e s ⊎ ((rest s.reader ≡ [] → ⊥) × StopsRead decoder e s)

abbrev pub EndsRun : {X : Type 0} → Decoder → Result X Error → State → Type 0
EndsRun decoder (Ok x) s = (s.frames ≡ []) × (rest s.reader ≡ [])
EndsRun decoder (Err e) s = StopsRun decoder e s

-- `placed` was appended to `out_old`.
abbrev pub Adds : Placed → Placed → Placed → Type 0
Adds out_old out_new placed = out_new ≡ out_old ++ placed

-- Reading or visiting to the end: for the operators that were read, the effect holds.
abbrev pub RunsToEnd : {X : Type 0} → Decoder → OfPlaced → Result X Error → State → State → Type 0
RunsToEnd decoder Effect result old new = (placed : Placed) × Effect placed × TakesOperators old new placed × EndsRun decoder result new
