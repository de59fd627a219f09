-- From the decoder's call after an opcode to one read of the reader of operators.
use Rattle.std.proofs.Common.{◌≡◌, ℕ, ◌+◌, ◌≤◌, List, ◌++◌, length, Some, None, Err, inl, inr, refl, sym, subst, ap, ◌∙◌, arith}
use Rattle.std.specs.Prelude.{IsSome}
use Rattle.wasm_below.specs.declared.error.Error.{Error}
use Rattle.wasm_below.specs.declared.features.WasmFeatures.{WasmFeatures}
use Rattle.wasm_below.specs.declared.message.Message.TheVariants as message
use Rattle.wasm_below.specs.Source.{Reader, rest, offset_of, at_position, Takes, BeginsWith, HasRead}
use Rattle.wasm_grammar.specs.declared.frame_kind.FrameKind.{FrameKind}
use Rattle.wasm_grammar.specs.Frames.{Allows, change_of, frames_changed, innermost, opened, OpensFrame}
use Rattle.wasm_grammar.proofs.Innermost.{may_follow}
use Rattle.wasm_instr.specs.declared.operator.Operator.{Operator}
use Rattle.wasm_instr.specs.Encoding.{EncodesOpcode}
use Rattle.wasm_instr.specs.Roles.{role_of, change_at}
use Rattle.wasm_instr.proofs.FirstBytes.{changes_there}
use Rattle.wasm_instr.proofs.HighBytes.{stays_from_20}
use Rattle.wasm_decode_opcodes.specs.Decoding.{DecodesOperator, IsAfterCode}
use Rattle.wasm_decode_opcodes.specs.Refused.{MayAllocate}
use Rattle.wasm_operators.specs.Expression.{IsAny}
use Rattle.wasm_operators.specs.Openings.{opened_by}
use Rattle.wasm_operators.specs.Reading.{Taking, Refusing, Decoder, State, GrowsLittle, GrowsForFrame, IsUnchanged, TakesOperator, StopsRead}
use Rattle.wasm_operators.specs.Stack.{frame_memory}
use Rattle.wasm_operators.proofs.FrameMemory.{as_little, as_grown}
use Rattle.wasm_operators.proofs.OneRead.{stops_read}
use Rattle.wasm_operators.proofs.Premises.{IsSound}
use Rattle.wasm_operators.specs.Next.{NextMayAllocate, BeginsOperator}

-- The decoder of one read.
abbrev pub one_read : Taking → Refusing → Decoder
one_read Encodes Fault = record { Encodes = Encodes; Fault = Fault; Allocates = NextMayAllocate Encodes; Kept = IsAny }

abbrev pub TakesAllowed : Taking → Type 0
TakesAllowed Encodes = (f : WasmFeatures) (kind : FrameKind) (text : List ℕ) (op : Operator) → Encodes f kind text op → Allows kind (role_of op)

change_is : (Encodes : Taking) → IsSound Encodes → (f : WasmFeatures) (kind : FrameKind) (op : Operator) (text : List ℕ) (code start : ℕ) (mid new : Reader) →
    IsAfterCode start None code mid → Encodes f kind text op → Takes (at_position mid start) new text → change_at code ≡ change_of (role_of op)
change_is Encodes sound f kind op text code start mid new b encodes takes = go b.opcode
  where
    go : HasRead (EncodesOpcode None) code (at_position mid start) mid → change_at code ≡ change_of (role_of op)
    go (head, opcode, t) =
        let first : BeginsWith code (rest (at_position mid start)) = (rest mid, t.parts ∙ ap (λ z. z ++ rest mid) opcode) in
        changes_there f op text (rest new) (rest (at_position mid start)) code (sound f kind text op encodes) takes.parts first

pub begun_open : (old mid : State) (kind : FrameKind) (code start : ℕ) → BeginsOperator old mid kind start code → IsSome (innermost mid.frames)
begun_open old mid kind code start b = subst IsSome (sym (ap innermost b.frames ∙ b.open_frame)) refl

pub begun_took : (Encodes : Taking) → IsSound Encodes → TakesAllowed Encodes → (old mid new : State) (kind : FrameKind) (code start : ℕ) (op : Operator)
    (text : List ℕ) → BeginsOperator old mid kind start code → Encodes mid.reader.features kind text op → Takes (at_position mid.reader start) new.reader text →
    new.frames ≡ frames_changed mid.frames (change_at code) → mid.room ≤ new.room + opened (change_at code) →
    frame_memory new.frames new.room ≡ frame_memory mid.frames mid.room → TakesOperator Encodes op old new
begun_took Encodes sound allowed old mid new kind code start op text b encodes takes frames used same =
    let is = change_is Encodes sound mid.reader.features kind op text code start mid.reader new.reader b.after encodes takes in
    let kept = b.room in
    let here : Encodes old.reader.features kind text op = subst (λ (f : WasmFeatures). Encodes f kind text op) (ap (λ (r : Reader). r.features) b.back) encodes in
    let changed : frames_changed old.frames (change_of (role_of op)) ≡ new.frames =
    ap (frames_changed old.frames) (sym is) ∙ ap (λ (fs : List FrameKind). frames_changed fs (change_at code)) (sym b.frames) ∙ sym frames in
    let opening : opened (change_at code) ≡ opened_by op = ap opened is in
    record {
      kind = kind;
      open_frame = b.open_frame;
      text = text;
      encodes = here;
      takes = subst (λ (r : Reader). Takes r new.reader text) b.back takes;
      frames = may_follow old.frames kind (role_of op) b.open_frame (allowed old.reader.features kind text op here) ∙ ap Some changed;
      room = omega (arith, used, kept, opening);
      memory = as_little (frame_memory old.frames old.room) (length old.frames) 10 (frame_memory mid.frames mid.room) (frame_memory new.frames new.room) b.memory same;
      kept = let depth = ap length b.frames in omega (arith, kept, same, depth);
      grows = as_grown old mid new b.grows same;
    }

pub begun_kept : (Encodes : Taking) → IsSound Encodes → TakesAllowed Encodes → (old mid new : State) (kind : FrameKind) (code start : ℕ) (op : Operator)
    (text : List ℕ) → 0x20 ≤ code → BeginsOperator old mid kind start code → Encodes mid.reader.features kind text op → Takes (at_position mid.reader start) new.reader text →
    new.frames ≡ mid.frames → new.room ≡ mid.room → TakesOperator Encodes op old new
begun_kept Encodes sound allowed old mid new kind code start op text high b encodes takes frames room =
    begun_took Encodes sound allowed old mid new kind code start op text b encodes takes
    (frames ∙ ap (frames_changed mid.frames) (sym (stays_from_20 code high)))
    (omega (arith, room))
    (ap (λ (n : ℕ). frame_memory new.frames n) room ∙ ap (λ (fs : List FrameKind). frame_memory fs mid.room) frames)

pub refused_unchanged : (Encodes : Taking) (Fault : Refusing) (old new : State) (kind : FrameKind) (e : Error) → innermost old.frames ≡ Some kind →
    DecodesOperator (Encodes old.reader.features kind) (Fault old.reader.features kind) (Err e) old.reader new.reader → new.frames ≡ old.frames → old.room ≤ new.room →
    GrowsLittle 0 old new → GrowsForFrame old new → IsUnchanged old new × StopsRead (one_read Encodes Fault) e new
refused_unchanged Encodes Fault old new kind e open_frame (same, refused) frames room memory grows =
    let list : MayAllocate (Encodes old.reader.features kind) old.reader → MayAllocate (Encodes new.reader.features kind) new.reader =
    λ h. subst (λ (r : Reader). MayAllocate (Encodes r.features kind) r) (sym same) h in (
      (same, frames, room, memory, grows),
      stops_read (one_read Encodes Fault) e old new kind same frames open_frame refused.refuses refused.ahead refused.fault
          (λ m. let h = refused.memory m in (h.1, inr (kind, ap innermost frames ∙ open_frame, list h.0))),
    )

pub begun_stopped : (Encodes : Taking) (Fault : Refusing) (old mid new : State) (kind : FrameKind) (code start : ℕ) (e : Error) →
    BeginsOperator old mid kind start code → DecodesOperator (Encodes mid.reader.features kind) (Fault mid.reader.features kind) (Err e) (at_position mid.reader start) new.reader →
    new.frames ≡ mid.frames → new.room ≡ mid.room → IsUnchanged old new × StopsRead (one_read Encodes Fault) e new
begun_stopped Encodes Fault old mid new kind code start e b refused frames room =
    let features : mid.reader.features ≡ old.reader.features = ap (λ (r : Reader). r.features) b.back in
    let still : frame_memory new.frames new.room ≡ frame_memory mid.frames mid.room =
    ap (λ (n : ℕ). frame_memory new.frames n) room ∙ ap (λ (fs : List FrameKind). frame_memory fs mid.room) frames in
    refused_unchanged Encodes Fault old new kind e b.open_frame
    (subst (λ (f : WasmFeatures). DecodesOperator (Encodes f kind) (Fault f kind) (Err e) old.reader new.reader) features
    (subst (λ (r : Reader). DecodesOperator (Encodes mid.reader.features kind) (Fault mid.reader.features kind) (Err e) r new.reader) b.back refused))
    (frames ∙ b.frames) (subst (λ (n : ℕ). old.room ≤ n) (sym room) b.room)
    (as_little (frame_memory old.frames old.room) (length old.frames) 10 (frame_memory mid.frames mid.room) (frame_memory new.frames new.room) b.memory still)
    (as_grown old mid new b.grows still)

pub room_refused : (Encodes : Taking) (Fault : Refusing) (old new : State) (kind : FrameKind) (code : ℕ) (e : Error) → innermost old.frames ≡ Some kind →
    new.reader ≡ old.reader → new.frames ≡ old.frames → old.room ≤ new.room → GrowsLittle 0 old new → GrowsForFrame old new → BeginsWith code (rest old.reader) → OpensFrame (change_at code) → new.room ≡ 0 → e.message ≡ message.OutOfMemory → e.offset ≡ offset_of old.reader →
    IsUnchanged old new × StopsRead (one_read Encodes Fault) e new
room_refused Encodes Fault old new kind code e open_frame same frames room memory grows begins opens none is at = (
  (same, frames, room, memory, grows),
  inr (inr (
    is,
    at ∙ ap offset_of (sym same),
    inl (kind, ap innermost frames ∙ open_frame, code, subst (λ (r : Reader). BeginsWith code (rest r)) (sym same) begins, opens, none),
  )),
)
