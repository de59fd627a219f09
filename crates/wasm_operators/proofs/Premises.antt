-- What the lemmas about reads require of a decoder's relations.
use Rattle.std.proofs.Common.{◌≡◌, ℕ, List, ◌∷◌, ◌++◌}
use Rattle.wasm_below.specs.declared.features.WasmFeatures.{WasmFeatures}
use Rattle.wasm_below.specs.declared.message.Message.{Message}
use Rattle.wasm_below.specs.declared.message.Message.TheVariants as message
use Rattle.wasm_below.specs.Fault.{DeterminesRefusal}
use Rattle.wasm_below.specs.Refusal.{IsReadFault}
use Rattle.wasm_below.specs.Source.{Reader, rest, BeginsWith}
use Rattle.wasm_grammar.specs.declared.frame_kind.FrameKind.{FrameKind}
use Rattle.wasm_grammar.specs.Frames.{Allows}
use Rattle.wasm_instr.specs.declared.operator.Operator.{Operator}
use Rattle.wasm_instr.specs.Encoding.{EncodesOperator}
use Rattle.wasm_instr.specs.Kinds.{IsSimd}
use Rattle.wasm_instr.specs.Roles.{role_of}
use Rattle.wasm_operators.specs.Expression.{Placed, OfPlaced}
use Rattle.wasm_operators.specs.Reading.{Taking, Refusing}

-- What is read is an encoding.
abbrev pub IsSound : Taking → Type 0
IsSound Encodes = (f : WasmFeatures) (kind : FrameKind) (text : List ℕ) (op : Operator) → Encodes f kind text op → EncodesOperator f text op

-- Each operator of this sort that is encoded and allowed is read.
abbrev pub TakesEach : (Operator → Type 0) → Taking → Type 0
TakesEach Kept Encodes = (f : WasmFeatures) (kind : FrameKind) (text : List ℕ) (op : Operator) → EncodesOperator f text op → Allows kind (role_of op) →
    Kept op → Encodes f kind text op

abbrev pub Everything : Operator → Type 0
Everything op = Unit {0}

abbrev pub IsNotSimd : Operator → Type 0
IsNotSimd op = IsSimd op → ⊥

abbrev pub TakesAll : Taking → Type 0
TakesAll Encodes = TakesEach Everything Encodes

abbrev pub AreEach : (Operator → Type 0) → OfPlaced
AreEach Sort placed = (before after : Placed) (p : Operator × ℕ) → placed ≡ before ++ p ∷ after → Sort p.0

-- Operators of this sort are read, and the lists with the property have no others.
pub record Keeps (Sort : Operator → Type 0) (Kept : OfPlaced) (Encodes : Taking) : Type 0 where
  pub takes : TakesEach Sort Encodes
  pub each : (placed : Placed) → Kept placed → AreEach Sort placed

abbrev pub TakesNoSimd : Taking → Type 0
TakesNoSimd Encodes = (f : WasmFeatures) (kind : FrameKind) (text : List ℕ) (op : Operator) → Encodes f kind text op → IsSimd op → ⊥

abbrev pub IsReading : Refusing → Type 0
IsReading Fault = (f : WasmFeatures) (kind : FrameKind) (m : Message) (r : Reader) (offset : ℕ) → Fault f kind m r offset → IsReadFault m

abbrev pub IsDetermined : Refusing → Type 0
IsDetermined Fault = (f : WasmFeatures) (kind : FrameKind) → DeterminesRefusal (Fault f kind)

abbrev pub RefusesSimd : Refusing → Type 0
RefusesSimd Fault = (f : WasmFeatures) (kind : FrameKind) (m : Message) (r : Reader) (offset : ℕ) → Fault f kind m r offset → BeginsWith 0xfd (rest r) →
    m ≡ message.UnexpectedSimd
