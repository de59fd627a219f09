-- Calls that read an operator and may have it visited, and the calls for their parts.
use Rattle.std.specs.Prelude.{◌≡◌, ℕ, ◌+◌, ◌≤◌, List, Option, Result, Ok, Err}
use Rattle.wasm_below.specs.declared.error.Error.{Error}
use Rattle.wasm_below.specs.declared.message.Message.{Message}
use Rattle.wasm_below.specs.declared.message.Message.TheVariants as message
use Rattle.wasm_below.specs.Fault.{HasFault}
use Rattle.wasm_below.specs.FromReader.{ReadsValue}
use Rattle.wasm_below.specs.Source.{Reader, rest, at_position, Refuses, IsAhead, HasRead}
use Rattle.wasm_grammar.specs.declared.frame_kind.FrameKind.{FrameKind}
use Rattle.wasm_instr.specs.declared.operator.Operator.{Operator}
use Rattle.wasm_instr.specs.Encoding.{EncodesOpcode}
use Rattle.wasm_imm.specs.Immediate.{Immediate, Kind}
use Rattle.wasm_instr.specs.Row.{prefix_of, opcode_of, immediates_of}
use Rattle.wasm_decode_opcodes.specs.Allowed.{EncodesAllowed, EncodesScalar, EncodesIn}
use Rattle.wasm_decode_opcodes.specs.Kinds.{EncodesKinds}
use Rattle.wasm_decode_opcodes.specs.OperatorFaults.{KindsFault, OperatorFault, ScalarOperatorFault, FaultIn}
use Rattle.wasm_decode_opcodes.specs.Refused.{MayAllocate}

-- As `ReadsValue`, for an operator. Allocation may fail where `MayAllocate` holds.
abbrev pub DecodesOperator : (List ℕ → Operator → Type 0) → (Message → Reader → ℕ → Type 0) → Result Operator Error → Reader → Reader → Type 0
DecodesOperator Encodes Fault result old new = ReadsValue Encodes Fault (MayAllocate Encodes) result old new

-- As `DecodesOperator`, after the opcode of an operator that began at `start`, in a frame of this kind. On `Err` the reader goes back to `start`.
abbrev pub DecodesOperatorAt : FrameKind → ℕ → Result Operator Error → Reader → Reader → Type 0
DecodesOperatorAt frame start result old new =
    DecodesOperator (EncodesAllowed old.features frame) (OperatorFault old.features frame) result (at_position old start) new

-- As `DecodesOperator`, and the operator is visited. On `Err`, the visitor is unchanged too.
abbrev pub Decodes : {V A : Type 0} → (V → Operator → A → V → Type 0) → (List ℕ → Operator → Type 0) → (Message → Reader → ℕ → Type 0) → Result A Error → Reader → Reader → V → V → Type 0
Decodes visits Encodes Fault (Ok a) old new v w = (op : Operator) × HasRead Encodes op old new × visits v op a w
Decodes visits Encodes Fault (Err e) old new v w = (w ≡ v) × DecodesOperator Encodes Fault (Err e) old new

-- As `Decodes`, after the opcode, as in `DecodesOperatorAt`.
abbrev pub DecodesAt : {V A : Type 0} → (V → Operator → A → V → Type 0) → FrameKind → ℕ → Result A Error → Reader → Reader → V → V → Type 0
DecodesAt visits frame start result old new v w =
    Decodes visits (EncodesAllowed old.features frame) (OperatorFault old.features frame) result (at_position old start) new v w

-- As `DecodesAt`, for a visitor without SIMD operators.
abbrev pub DecodesScalarAt : {V A : Type 0} → (V → Operator → A → V → Type 0) → FrameKind → ℕ → Result A Error → Reader → Reader → V → V → Type 0
DecodesScalarAt visits frame start result old new v w =
    Decodes visits (EncodesScalar old.features frame) (ScalarOperatorFault old.features frame) result (at_position old start) new v w

-- `Decodes` in this innermost frame. If none is open, the error is `OperatorsRemaining`.
abbrev pub DecodesIn : {V A : Type 0} → (V → Operator → A → V → Type 0) → Option FrameKind → Result A Error → Reader → Reader → V → V → Type 0
DecodesIn visits frame result old new v w =
    Decodes visits (EncodesIn (EncodesAllowed old.features) frame) (FaultIn (OperatorFault old.features) frame) result old new v w

-- As `DecodesIn`, for a visitor without SIMD operators.
abbrev pub DecodesScalarIn : {V A : Type 0} → (V → Operator → A → V → Type 0) → Option FrameKind → Result A Error → Reader → Reader → V → V → Type 0
DecodesScalarIn visits frame result old new v w =
    Decodes visits (EncodesIn (EncodesScalar old.features) frame) (FaultIn (ScalarOperatorFault old.features) frame) result old new v w

-- The reader is after this opcode, or this prefix byte and subopcode, which began at `start`.
pub record IsAfterCode (start : ℕ) (prefix : Option ℕ) (code : ℕ) (r : Reader) : Type 0 where
  pub begun : start ≤ r.position
  pub opcode : HasRead (EncodesOpcode prefix) code (at_position r start) r

-- The result of a visit of an operator with this code, prefix byte (if any) and immediates.
abbrev pub VisitsRow : {V A : Type 0} → (V → Operator → A → V → Type 0) → Option ℕ → ℕ → List Immediate → V → A → V → Type 0
VisitsRow visits prefix code is v a w = (op : Operator) × (prefix_of op ≡ prefix) × (opcode_of op ≡ code) × (immediates_of op ≡ is) × visits v op a w

-- An error of immediates of these kinds, of an operator that began at `start`. `OutOfMemory` has the offset of `start`, and occurs only where `Memory` holds.
pub record IsRefusedKinds (ks : List Kind) (Memory : Reader → Type 0) (start : ℕ) (e : Error) (old : Reader) : Type 0 where
  pub refuses : Refuses (EncodesKinds old.features ks) (rest old) e.message
  pub ahead : IsAhead (at_position old start) e.offset
  pub fault : HasFault (KindsFault old.features (old.start + start) ks) e old
  pub memory : e.message ≡ message.OutOfMemory → Memory old × (e.offset ≡ old.start + start)

-- Unless allocation fails, `Ok` if and only if a prefix of the rest encodes immediates of these kinds, which are consumed.
-- On `Err`, the first immediate in error determines the error, and `Moves` says where the reader is.
abbrev pub ReadsKinds : {X : Type 0} → List Kind → (X → List Immediate) → (Reader → Type 0) → (ℕ → Reader → Reader → Type 0) → ℕ → Result X Error → Reader → Reader → Type 0
ReadsKinds ks listed Memory Moves start (Ok x) old new = HasRead (EncodesKinds old.features ks) (listed x) old new
ReadsKinds ks listed Memory Moves start (Err e) old new = Moves start old new × IsRefusedKinds ks Memory start e old

-- The reader goes back to `start`.
abbrev pub GoesBack : ℕ → Reader → Reader → Type 0
GoesBack start old new = new ≡ at_position old start

-- The reader does not go back.
abbrev pub StaysAhead : ℕ → Reader → Reader → Type 0
StaysAhead start old new = (new ≡ at_position old new.position) × (old.position ≤ new.position)
