-- Statements of laws, named so that callers' proofs can take them as arguments.
use Rattle.std.specs.Prelude.{◌≡◌, ℕ, ◌+◌, ◌*◌, ◌<◌, ◌≤◌, List, [], ◌∷◌, ◌++◌, length}
use Rattle.wasm_below.specs.Source.{offset_of}
use Rattle.wasm_below.specs.declared.features.WasmFeatures.{WasmFeatures}
use Rattle.wasm_instr.specs.declared.operator.Operator.{Operator}
use Rattle.wasm_decode_opcodes.specs.Allowed.{EncodesAllowed}
use Rattle.wasm_operators.specs.Expression.{Placed, operators, LaidOut, AreEncoded, IsBeginningOf}
use Rattle.wasm_operators.specs.MainTheorem.{IsWithinDepth}
use Rattle.wasm_operators.specs.Reading.{State, GrowsLittle, IsUnchanged, TakesOperator, TakesOperators}

-- A list is at most as long as its encoding.
abbrev pub IsNoLonger : WasmFeatures → Type 0
IsNoLonger f = (offset : ℕ) (placed : Placed) (bytes : List ℕ) → LaidOut f offset bytes placed → length placed ≤ length bytes

-- Each operator of an encoded list has an encoding.
abbrev pub HasEncodings : WasmFeatures → Type 0
HasEncodings f = (offset : ℕ) (placed : Placed) (bytes : List ℕ) → LaidOut f offset bytes placed → AreEncoded f (operators placed)

-- Joined encodings encode the joined list.
abbrev pub LaysOutBoth : WasmFeatures → Type 0
LaysOutBoth f = (offset : ℕ) (first second : Placed) (a b : List ℕ) → LaidOut f offset a first → LaidOut f (offset + length a) b second →
    LaidOut f offset (a ++ b) (first ++ second)

-- Of two lists that the same bytes start with, the shorter is a prefix of the longer.
abbrev pub BeginsLonger : WasmFeatures → Type 0
BeginsLonger f = (offset : ℕ) (first second : Placed) (a b x y : List ℕ) → LaidOut f offset a first → LaidOut f offset b second → a ++ x ≡ b ++ y →
    length first ≤ length second → IsBeginningOf first second

-- Before the first read, the list is empty.
abbrev pub TakesNone : Type 0
TakesNone = (s : State) → TakesOperators s s []

-- A read appends its operator, with its offset.
abbrev pub TakesOneMore : Type 0
TakesOneMore = (old mid new : State) (placed : Placed) (op : Operator) → TakesOperators old mid placed → TakesOperator EncodesAllowed op mid new →
    TakesOperators old new (placed ++ (op, offset_of mid.reader) ∷ [])

-- A failed read appends nothing.
abbrev pub TakesNoMore : Type 0
TakesNoMore = (old mid new : State) (placed : Placed) → TakesOperators old mid placed → IsUnchanged mid new → TakesOperators old new placed

-- Two runs, one after the other, read the joined list.
abbrev pub TakesBoth : Type 0
TakesBoth = (old mid new : State) (first second : Placed) → TakesOperators old mid first → TakesOperators mid new second →
    TakesOperators old new (first ++ second)

-- A read consumes at least one byte.
abbrev pub TakesBytes : Type 0
TakesBytes = (op : Operator) (old new : State) → TakesOperator EncodesAllowed op old new → offset_of old.reader < offset_of new.reader

-- A read consumes two bytes or more for each frame that it adds.
abbrev pub AddsFewFrames : Type 0
AddsFewFrames = (op : Operator) (old new : State) → TakesOperator EncodesAllowed op old new → IsWithinDepth old new

-- The bound `GrowsLittle` holds over two runs, if the first consumes two bytes or more per added
-- frame.
abbrev pub MemoryAddsUp : Type 0
MemoryAddsUp = (first second : ℕ) (old mid new : State) → GrowsLittle first old mid → 2 * length mid.frames ≤ 2 * length old.frames + first →
    GrowsLittle second mid new → GrowsLittle (first + second) old new
