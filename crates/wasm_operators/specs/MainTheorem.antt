-- What reading to the end means for the grammar of expressions.
use Rattle.std.specs.Prelude.{◌≡◌, ◌≢◌, ◌↔◌, ℕ, ◌+◌, ◌*◌, ◌≤◌, List, [], ◌++◌, length, replicate, Result, IsOk, IfErr, OnOk, Some, ◌⊎◌}
use Rattle.wasm_below.specs.declared.error.Error.{Error}
use Rattle.wasm_below.specs.declared.message.Message.{Message}
use Rattle.wasm_below.specs.declared.message.Message.TheVariants as message
use Rattle.wasm_below.specs.Source.{Source, Reader, rest, offset_of, source_of, Takes}
use Rattle.wasm_grammar.specs.declared.frame_kind.FrameKind.{FrameKind}
use Rattle.wasm_grammar.specs.Tree.{Expression}
use Rattle.wasm_grammar.specs.Beginning.{IsOnlyTree}
use Rattle.wasm_grammar.specs.Frames.{frames_along}
use Rattle.wasm_grammar.specs.OpenPath.{OpenPath}
use Rattle.wasm_instr.specs.declared.operator.Operator.{Operator}
use Rattle.wasm_instr.specs.Roles.{roles_of}
use Rattle.wasm_operators.specs.Expression.{Placed, OfPlaced, operators, LaidOut, AreEncoded, EncodesRest, IsPrefixAfter, Longest, IsLongestAfter}
use Rattle.wasm_operators.specs.Flat.{IsAllowedFrom}
use Rattle.wasm_operators.specs.Visiting.{IsScalar}
use Rattle.wasm_operators.specs.Reading.{State, Decoder, StopsRun}

-- These operators were read before: they have encodings, and lead to the open frames.
pub record ReadSoFar (before : List Operator) (s : State) : Type 0 where
  pub encodes : AreEncoded s.reader.features before
  pub path : OpenPath (roles_of before) s.frames

-- The bytes encode the operators, which after `before` make one tree. No byte or frame is left.
pub record ReadsTree (before : List Operator) (old new : State) (placed : Placed) : Type 0 where
  pub encodes : EncodesRest before (source_of old.reader) placed
  pub tree : Expression Operator
  pub only : IsOnlyTree (roles_of (before ++ operators placed)) tree
  pub closed : new.frames ≡ []
  pub all : rest new.reader ≡ []
  pub takes : Takes old.reader new.reader (rest old.reader)

-- The longest `Kept` list that begins an expression; after `OutOfMemory`, some list that begins one.
abbrev pub BeginningAt : OfPlaced → Message → List Operator → Reader → Placed → Type 0
BeginningAt Kept message.OutOfMemory before r placed = IsPrefixAfter before (source_of r) placed
BeginningAt Kept _ before r placed = Longest (IsPrefixAfter before (source_of r)) Kept placed

-- The operators are the longest `Kept` list that begins an expression; after `OutOfMemory`, some
-- list that begins one. The error describes the bytes after them.
pub record ReadsBeginning (decoder : Decoder) (before : List Operator) (e : Error) (old new : State) (placed : Placed) : Type 0 where
  pub at : BeginningAt decoder.Kept e.message before old.reader placed
  pub text : List ℕ
  pub takes : Takes old.reader new.reader text
  pub laid : LaidOut old.reader.features (offset_of old.reader) text placed
  pub read_so_far : ReadSoFar (before ++ operators placed) new
  pub stops : StopsRun decoder e new

-- `Effect` holds for some list of operators with the property `Of`.
abbrev pub SomeCame : OfPlaced → OfPlaced → Type 0
SomeCame Effect Of = (placed : Placed) × Effect placed × Of placed

abbrev pub IsNotOutOfMemory : {X : Type 0} → Result X Error → Type 0
IsNotOutOfMemory result = IfErr result (λ e. e.message ≢ message.OutOfMemory)

-- All of the bytes encode the list, which closes all of these frames.
abbrev pub ClosesFrom : List FrameKind → Source → Placed → Type 0
ClosesFrom frames s placed = LaidOut s.features s.offset s.bytes placed × (frames_along frames (roles_of (operators placed)) ≡ Some [])

-- Unless allocation fails, `Effect` holds for the longest `Kept` list that the frames allow. `Ok`
-- if and only if all bytes encode it and it closes every frame.
abbrev pub ReadsFlat : {X : Type 0} → Decoder → OfPlaced → Result X Error → State → Type 0
ReadsFlat decoder Effect result old =
    (flat : Placed) → Longest (IsAllowedFrom old.frames (source_of old.reader)) decoder.Kept flat → IsNotOutOfMemory result → Effect flat ×
    (IsOk result ↔ ClosesFrom old.frames (source_of old.reader) flat)

-- Each added frame took at least two bytes.
abbrev pub IsWithinDepth : State → State → Type 0
IsWithinDepth old new = 2 * length new.frames + old.reader.position ≤ 2 * length old.frames + new.reader.position

abbrev pub with_after : Source → List ℕ → Source
with_after s more = record { features = s.features; offset = s.offset; bytes = s.bytes ++ more }

-- With more bytes after them, the bytes encode a `Kept` rest of an expression.
pub record IsCut (Kept : OfPlaced) (before : List Operator) (s : Source) : Type 0 where
  pub more : List ℕ
  pub some : more ≡ [] → ⊥
  pub whole : Placed
  pub encodes : EncodesRest before (with_after s more) whole
  pub kept : Kept whole

-- `FramesRemain` after the last byte, `EndOfData` within an operator, or `OutOfMemory`.
abbrev pub CutFault : Message → List ℕ → Type 0
CutFault message.OutOfMemory left = Unit {0}
CutFault message.FramesRemain left = left ≡ []
CutFault message.EndOfData left = left ≡ [] → ⊥
CutFault _ left = ⊥

-- `n` bytes 0x0b complete the expression.
abbrev pub IsCompletedByEnds : List Operator → Source → ℕ → Type 0
IsCompletedByEnds before s n = (whole : Placed) × EncodesRest before (with_after s (replicate n 0x0b)) whole

-- On `FramesRemain`, one byte 0x0b for each open frame completes the expression.
abbrev pub IsCompletedIfCut : {X : Type 0} → List Operator → Result X Error → State → State → Type 0
IsCompletedIfCut before result old new =
    IfErr result (λ e. e.message ≡ message.FramesRemain → IsCompletedByEnds before (source_of old.reader) (length new.frames))

-- Reading or visiting to the end, after the operators `before`. `Effect`: the list was appended, or
-- visited.
pub record ReadsRestAfter {X : Type 0} (before : List Operator) (decoder : Decoder) (Effect : OfPlaced) (result : Result X Error) (old new : State) : Type 0 where
  -- `Ok`: the operators complete the walk of the one tree.
  pub tree : OnOk result (SomeCame Effect (ReadsTree before old new))
  -- For a `Kept` rest of an expression, only allocation can fail.
  pub only : (whole : Placed) → EncodesRest before (source_of old.reader) whole → decoder.Kept whole → IfErr result (λ e. e.message ≡ message.OutOfMemory)
  -- `Err`: the longest `Kept` list that begins an expression, unless allocation fails.
  pub beginning : IfErr result (λ e. SomeCame Effect (ReadsBeginning decoder before e old new))
  -- If more bytes would complete a `Kept` rest, the error is a `CutFault`.
  pub cut : IsCut decoder.Kept before (source_of old.reader) → IfErr result (λ e. CutFault e.message (rest new.reader))
  -- If only frames are left open, bytes 0x0b complete the expression.
  pub completed : IsCompletedIfCut before result old new

-- As `ReadsRestAfter`, after any operators that lead to the open frames.
abbrev pub ReadsRest : {X : Type 0} → Decoder → OfPlaced → Result X Error → State → State → Type 0
ReadsRest decoder Effect result old new = (before : List Operator) → ReadSoFar before old → ReadsRestAfter before decoder Effect result old new

-- If the longest list has a SIMD operator, the error is `UnexpectedSimd` or `OutOfMemory`.
abbrev pub StopsAtSimd : {X : Type 0} → Result X Error → State → Type 0
StopsAtSimd result old = (before : List Operator) → ReadSoFar before old → (longest : Placed) → IsLongestAfter before (source_of old.reader) longest →
    ¬ IsScalar longest → IfErr result (λ e. (e.message ≡ message.UnexpectedSimd) ⊎ (e.message ≡ message.OutOfMemory))
