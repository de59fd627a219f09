use Rattle.std.specs.Prelude.{◌≡◌, ℕ, ◌<◌, ◌≤◌, [], Some, None, Result, ◌⊎◌}
use Rattle.wasm_below.specs.declared.error.Error.{Error}
use Rattle.wasm_grammar.specs.declared.frame_kind.FrameKind.{FrameKind}
use Rattle.wasm_grammar.specs.Frames.{innermost, OpensFrame}
use Rattle.wasm_instr.specs.declared.operator.Operator.{Operator}
use Rattle.wasm_instr.specs.Roles.{change_at}
use Rattle.wasm_below.specs.Source.{Reader, at_position}
use Rattle.wasm_decode_opcodes.specs.Allowed.{EncodesAllowed, EncodesScalar}
use Rattle.wasm_decode_opcodes.specs.Decoding.{IsAfterCode}
use Rattle.wasm_decode_opcodes.specs.OperatorFaults.{OperatorFault, ScalarOperatorFault}
use Rattle.wasm_decode_opcodes.specs.Refused.{MayAllocate}
use Rattle.wasm_operators.specs.Stack.{OpenFrames}
use Rattle.wasm_operators.specs.Expression.{IsAny}
use Rattle.wasm_operators.specs.Visiting.{IsScalar}
use Rattle.wasm_operators.specs.Reading.{Taking, Allocating, Decoder, Anywhere, State, GrowsLittle, GrowsForFrame, FrameMayAllocate, IsUnchanged, StopsRead, ReadsOperator, VisitsOperator}

-- The next operator may own a list.
abbrev pub ListMayAllocate : Taking → Allocating
ListMayAllocate Encodes s = (kind : FrameKind) × (innermost s.frames ≡ Some kind) × MayAllocate (Encodes s.reader.features kind) s.reader

-- The next opcode opens a frame without capacity, or `ListMayAllocate`.
abbrev pub NextMayAllocate : Taking → Allocating
NextMayAllocate Encodes s = FrameMayAllocate s ⊎ ListMayAllocate Encodes s

-- All operators are decoded; allocation may fail in these states.
abbrev pub all_operators_if : Allocating → Decoder
all_operators_if Allocates = record { Encodes = EncodesAllowed; Fault = OperatorFault; Allocates = Allocates; Kept = IsAny }

-- The same, for the states of `NextMayAllocate`.
abbrev pub all_operators : Decoder
all_operators = all_operators_if (NextMayAllocate EncodesAllowed)

-- As `all_operators`, with a list of operators: adding one may fail anywhere.
abbrev pub collecting : Decoder
collecting = all_operators_if Anywhere

-- As `all_operators`, without SIMD operators.
abbrev pub scalar_operators : Decoder
scalar_operators = record { Encodes = EncodesScalar; Fault = ScalarOperatorFault; Allocates = NextMayAllocate EncodesScalar; Kept = IsScalar }

-- `Ok`, and `TakesOperator`, if and only if an operator that the innermost frame allows is next,
-- unless allocation fails; otherwise `StopsNext`.
abbrev pub ReadsNext : Result Operator Error → State → State → Type 0
ReadsNext = ReadsOperator all_operators

-- As `ReadsNext`, and the visitor's relation holds at the operator. On `Err`, the visitor is
-- unchanged.
abbrev pub VisitsNext : {V A : Type 0} → (V → Operator → A → V → Type 0) → Result A Error → State → State → V → V → Type 0
VisitsNext visits = VisitsOperator visits all_operators

-- As `VisitsNext`, by a visitor without SIMD operators.
abbrev pub VisitsNextScalar : {V A : Type 0} → (V → Operator → A → V → Type 0) → Result A Error → State → State → V → V → Type 0
VisitsNextScalar visits = VisitsOperator visits scalar_operators

abbrev pub state_of : Reader → OpenFrames → State
state_of r s = record { reader = r; frames = s.frames; room = s.room }

-- Only the capacity may have grown. `StopsRead` holds for the error.
abbrev pub StopsNext : Decoder → Error → State → State → Type 0
StopsNext decoder e old new = IsUnchanged old new × StopsRead decoder e new

-- The opcode was read from `start`, and there is capacity for the frame that it opens.
pub record BeginsOperator (old new : State) (kind : FrameKind) (start code : ℕ) : Type 0 where
  pub open_frame : innermost old.frames ≡ Some kind
  pub after : IsAfterCode start None code new.reader
  pub back : at_position new.reader start ≡ old.reader
  pub frames : new.frames ≡ old.frames
  pub room : old.room ≤ new.room
  pub memory : GrowsLittle 0 old new
  pub grows : GrowsForFrame old new
  pub opens : OpensFrame (change_at code) → (new.frames ≡ []) ⊎ (0 < new.room)
