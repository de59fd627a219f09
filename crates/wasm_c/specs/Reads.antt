-- Specification: Binary Format, Modules, Code Section.
use Rattle.std.specs.Prelude.{◌≡◌, ℕ, ◌+◌, ◌^◌, ◌<◌, ◌≤◌, List, [], ◌++◌, length, drop, Result, Ok, Err, IfErr, ◌⊎◌}
use Rattle.wasm_operators.specs.below.declared.error.Error.{Error}
use Rattle.wasm_operators.specs.below.declared.message.Message.TheVariants as message
use Rattle.wasm_operators.specs.below.Source.{Reader, rest, source_of, end_of}
use Rattle.wasm_operators.specs.Body.{EncodesBody, OpensBody, StopsBody}
use Rattle.wasm_operators.specs.opcodes.Allowed.{EncodesAllowed}
use Rattle.wasm_operators.specs.Expression.{Placed, EncodesExpression}
use Rattle.wasm_operators.specs.MainTheorem.{ReadsBeginning}
use Rattle.wasm_operators.specs.Locals.{Declaration}
use Rattle.wasm_operators.specs.Next.{NextMayAllocate, all_operators, collecting}
use Rattle.wasm_operators.specs.Reading.{State, StopsRun, TakesOperators}
use Rattle.wasm_view.specs.Lists.{written}
use Rattle.wasm_view.specs.View.{views}
use Rattle.wasm_view.specs.declared.view.WasmOperator.{WasmOperator}
use Rattle.wasm_c.specs.declared.refusal.WasmRefusal.{WasmRefusal}
use Rattle.wasm_c.specs.Refused.{refusal_at}

-- The offsets of the bytes and of their end fit in 64 bits.
abbrev pub IsWithin : ℕ → List ℕ → Type 0
IsWithin offset bytes = offset + length bytes < 2 ^ 64

-- After these operators, the next operator may own a list, or its opcode opens a frame without
-- capacity.
pub record MayAllocateAfter (opened : State) (placed : Placed) : Type 0 where
  pub stopped : State
  pub takes : TakesOperators opened stopped placed
  pub asks : NextMayAllocate EncodesAllowed stopped

-- After the body's locals and these operators, the next one may allocate.
pub record BodyMayAllocate (body : Reader) (placed : Placed) : Type 0 where
  pub opened : State
  pub opens : OpensBody (Ok opened) body
  pub next : MayAllocateAfter opened placed

-- If allocation failed, this holds.
abbrev pub IfMemory : {X : Type 0} → Result X Error → Type 0 → Type 0
IfMemory result P = IfErr result (λ e. e.message ≡ message.OutOfMemory → P)

-- How reading a body ended: the bytes encode it, or an error follows these operators.
abbrev pub EndsBody : {X : Type 0} → Result X Error → Reader → Placed → Type 0
EndsBody (Ok x) input placed = (declarations : List Declaration) × EncodesBody (source_of input) declarations placed
EndsBody (Err e) input placed = StopsBody e input placed

-- The operators found in a body: how many, which are in the array, and how reading ended.
pub record FindsBody {X : Type 0} (result : Result X Error) (input : Reader) (count : ℕ) (old new : List WasmOperator) (placed : Placed) : Type 0 where
  pub ends : EndsBody result input placed
  pub memory : IfMemory result (BodyMayAllocate input placed)
  pub counted : count ≡ length placed
  pub in_array : new ≡ written (views placed) old

-- As `FindsBody`, with how reading ended as a C struct.
abbrev pub FindsPlain : WasmRefusal → Reader → ℕ → List WasmOperator → List WasmOperator → Placed → Type 0
FindsPlain r input count old new placed =
    (result : Result (Unit {0}) Error) × (r ≡ refusal_at result (end_of input)) × FindsBody result input count old new placed

-- How reading the operators of a new reader ended.
abbrev pub EndsOperators : {X : Type 0} → Result X Error → State → Placed → Type 0
EndsOperators (Ok x) opened placed = EncodesExpression (source_of opened.reader) placed
EndsOperators (Err e) opened placed = (stopped : State) × ReadsBeginning collecting [] e opened stopped placed

-- As `FindsBody`, for the operators of a new reader.
pub record FindsOperators {X : Type 0} (result : Result X Error) (opened : State) (count : ℕ) (old new : List WasmOperator) (placed : Placed) : Type 0 where
  pub ends : EndsOperators result opened placed
  pub memory : IfMemory result (MayAllocateAfter opened placed)
  pub counted : count ≡ length placed
  pub in_array : new ≡ written (views placed) old

-- Why filling an array ended: it is full, no data is left, or no operator is read.
abbrev pub EndsFilling : {X : Type 0} → Result X Error → State → Type 0 → Type 0
EndsFilling (Ok x) now Full = Full ⊎ (rest now.reader ≡ [])
EndsFilling (Err e) now Full = StopsRun all_operators e now

-- These operators were read, and are at the start of the array; its other elements are unchanged.
pub record FillsArray {X : Type 0} (result : Result X Error) (opened now : State) (count : ℕ) (old new : List WasmOperator) (found : Placed) : Type 0 where
  pub takes : TakesOperators opened now found
  pub counted : count ≡ length found
  pub fits : length found ≤ length old
  pub in_array : new ≡ views found ++ drop (length found) old
  pub ends : EndsFilling result now (length found ≡ length old)
