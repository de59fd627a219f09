-- A visit after its opcode: below 0x20 the stack changes; from 0x20 on the frames stay.
use Rattle.std.proofs.Common.{◌≡◌, ℕ, ◌+◌, ◌≤◌, Result, Ok, Err}
use Rattle.wasm_below.specs.declared.error.Error.{Error}
use Rattle.wasm_below.specs.Source.{at_position}
use Rattle.wasm_grammar.specs.declared.frame_kind.FrameKind.{FrameKind}
use Rattle.wasm_grammar.specs.Frames.{frames_changed, opened}
use Rattle.wasm_instr.specs.declared.operator.Operator.{Operator}
use Rattle.wasm_instr.specs.Roles.{change_at}
use Rattle.wasm_decode_opcodes.specs.Decoding.{Decodes}
use Rattle.wasm_operators.specs.Reading.{Taking, Refusing, State, VisitsOperator}
use Rattle.wasm_operators.specs.Stack.{frame_memory}
use Rattle.wasm_operators.proofs.Premises.{IsSound}
use Rattle.wasm_operators.specs.Next.{BeginsOperator}
use Rattle.wasm_operators.proofs.Taken.{one_read, TakesAllowed, begun_took, begun_kept, begun_stopped}

module _ {V A : Type 0} (visits : V → Operator → A → V → Type 0) (Encodes : Taking) (Fault : Refusing) where
  abbrev pub After : State → State → FrameKind → ℕ → Result A Error → V → V → Type 0
  After mid new kind start result v w =
      Decodes visits (Encodes mid.reader.features kind) (Fault mid.reader.features kind) result (at_position mid.reader start) new.reader v w

  pub visited_changing : IsSound Encodes → TakesAllowed Encodes → (old mid new : State) (kind : FrameKind) (code start : ℕ) (a : A) (v w : V) →
      BeginsOperator old mid kind start code → After mid new kind start (Ok a) v w →
      new.frames ≡ frames_changed mid.frames (change_at code) → mid.room ≤ new.room + opened (change_at code) →
      frame_memory new.frames new.room ≡ frame_memory mid.frames mid.room → VisitsOperator visits (one_read Encodes Fault) (Ok a) old new v w
  visited_changing sound allowed old mid new kind code start a v w b (op, (text, encodes, takes), visit) frames used same =
      (op, begun_took Encodes sound allowed old mid new kind code start op text b encodes takes frames used same, visit)

  pub refused_after : (old mid new : State) (kind : FrameKind) (code start : ℕ) (e : Error) (v w : V) → BeginsOperator old mid kind start code →
      After mid new kind start (Err e) v w → new.frames ≡ mid.frames → new.room ≡ mid.room →
      VisitsOperator visits (one_read Encodes Fault) (Err e) old new v w
  refused_after old mid new kind code start e v w b (same, refused) frames room =
      let stops = begun_stopped Encodes Fault old mid new kind code start e b refused frames room in (stops.0, same, stops.1)

  pub visited_keeping : IsSound Encodes → TakesAllowed Encodes → (old mid new : State) (kind : FrameKind) (code start : ℕ) (result : Result A Error) (v w : V) →
      0x20 ≤ code → BeginsOperator old mid kind start code → After mid new kind start result v w → new.frames ≡ mid.frames → new.room ≡ mid.room →
      VisitsOperator visits (one_read Encodes Fault) result old new v w
  visited_keeping sound allowed old mid new kind code start (Ok a) v w high b (op, (text, encodes, takes), visit) frames room =
      (op, begun_kept Encodes sound allowed old mid new kind code start op text high b encodes takes frames room, visit)
  visited_keeping sound allowed old mid new kind code start (Err e) v w high b after frames room =
      refused_after old mid new kind code start e v w b after frames room
