-- Specification: Binary Format, Expressions.
use Rattle.std.specs.Prelude.{◌≡◌, ◌≢◌, ℕ, ◌+◌, List, [], ◌∷◌, Some, ◌⊎◌}
use Rattle.wasm_below.specs.declared.message.Message.{Message}
use Rattle.wasm_below.specs.declared.message.Message.TheVariants as message
use Rattle.wasm_below.specs.Source.{Reader, rest, offset_of, Takes, NoPrefix, BeginsWith}
use Rattle.wasm_grammar.specs.declared.frame_kind.FrameKind.{FrameKind}
use Rattle.wasm_grammar.specs.declared.frame_kind.FrameKind.TheVariants as frame
use Rattle.wasm_grammar.specs.Frames.{frames_along, innermost, without_innermost}
use Rattle.wasm_instr.specs.Roles.{roles_of}
use Rattle.wasm_decode_opcodes.specs.Allowed.{EncodesAllowed}
use Rattle.wasm_decode_opcodes.specs.OperatorFaults.{OperatorFault}
use Rattle.wasm_operators.specs.Expression.{Placed, operators, LaidOut}
use Rattle.wasm_operators.specs.Next.{NextMayAllocate}
use Rattle.wasm_operators.specs.Reading.{State, IsFresh, TakesOperators}
use Rattle.wasm_operators.specs.Constant.{HasNoEnd}

-- Between the readers are operators other than `end`, which lead from the frame of an expression to
-- these frames.
pub record PassesOperators (old new : Reader) (frames : List FrameKind) : Type 0 where
  pub placed : Placed
  pub no_end : HasNoEnd (operators placed)
  pub text : List ℕ
  pub takes : Takes old new text
  pub laid : LaidOut old.features (offset_of old) text placed
  pub along : frames_along (frame.Block ∷ []) (roles_of (operators placed)) ≡ Some frames

-- No operator that the innermost frame allows is encoded next.
abbrev pub IsNoOperator : Message → Reader → List FrameKind → ℕ → Type 0
IsNoOperator m r frames offset =
    (kind : FrameKind) × (innermost frames ≡ Some kind) × NoPrefix (EncodesAllowed r.features kind) (rest r) × OperatorFault r.features kind m r offset

-- The next operator is an `end` that leaves a frame open. The error is after it.
abbrev pub EndsInside : Message → Reader → List FrameKind → ℕ → Type 0
EndsInside m r frames offset =
    BeginsWith 0x0b (rest r) × (without_innermost frames ≢ []) × (m ≡ message.FramesRemainConst) × (offset ≡ offset_of r + 1)

-- After operators other than `end`, no allowed operator is encoded, or an `end` leaves a frame
-- open.
abbrev pub ConstantFault : Message → Reader → ℕ → Type 0
ConstantFault m r offset =
    (after : Reader) × (frames : List FrameKind) × PassesOperators r after frames × (IsNoOperator m after frames offset ⊎ EndsInside m after frames offset)

-- After operators other than `end`, the next owns a list, or opens a frame beyond the previous
-- maximum.
abbrev pub ConstantMayAllocate : Reader → Type 0
ConstantMayAllocate r =
    (opened after : State) × (placed : Placed) × (opened.reader ≡ r) × IsFresh opened × TakesOperators opened after placed ×
    PassesOperators r after.reader after.frames × NextMayAllocate EncodesAllowed after
