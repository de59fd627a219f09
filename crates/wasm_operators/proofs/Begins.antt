-- What precedes the immediates of an operator.
use Rattle.std.proofs.Common.{◌≡◌, ℕ, ◌+◌, ◌≤◌, true, false, length, Some, Result, Ok, Err, inl, inr, sym, subst, ap, ◌∙◌, arith}
use Rattle.std.proofs.lemmas.Bool.{cases_lt, false≢true}
use Rattle.std.specs.Prelude.{is_err, IsOk, IfErr}
use Rattle.wasm_below.specs.declared.error.Error.{Error}
use Rattle.wasm_below.specs.declared.message.Message.TheVariants as message
use Rattle.wasm_imm.specs.OutOfMemory.{IsOutOfMemoryAt}
use Rattle.wasm_below.specs.Source.{Reader, rest, at_position, BeginsWith, HasRead, IsByte}
use Rattle.wasm_below.proofs.TakesLemmas.{first_byte_read}
use Rattle.wasm_grammar.specs.declared.frame_kind.FrameKind.{FrameKind}
use Rattle.wasm_grammar.specs.declared.frame_change.FrameChange.{FrameChange}
use Rattle.wasm_grammar.specs.Frames.{innermost, OpensFrame}
use Rattle.wasm_instr.specs.Roles.{change_at}
use Rattle.wasm_operators.specs.Stack.{OpenFrames, frame_memory}
use Rattle.wasm_operators.proofs.FrameMemory.{memory_stays, as_little}
use Rattle.wasm_operators.specs.Reading.{Taking, Refusing}
use Rattle.wasm_operators.specs.Next.{StopsNext, state_of}
use Rattle.wasm_operators.proofs.Taken.{one_read, room_refused}
use Rattle.wasm_decode.proofs.DecodingLemmas.{occurs}

pub back_to : (old mid : Reader) (code start : ℕ) → HasRead IsByte code old mid → start ≡ old.position → (start ≤ mid.position) × (at_position mid start ≡ old) × BeginsWith code (rest old)
back_to old mid code start reads same =
    let h = occurs old mid code start reads same in
    let f = first_byte_read old mid code reads in
    (h.1.begun, h.0, (rest mid, f.2.parts))

no_room : (room : ℕ) → (1 ≤ room → false ≡ true) → room ≡ 0
no_room room enough = elim (cases_lt room 1) [
  | inl below ↦ omega (arith, below)
  | inr some ↦ absurd (false≢true (enough some))
]

-- after `reserve` failed for one frame
pub not_reserved : {X : Type 0} (r : Result X Error) (s t : OpenFrames) → is_err r ≡ true → (1 ≤ s.room → IsOk r) → IfErr r (λ e. IsOutOfMemoryAt 0 e × (t ≡ s)) →
    (s.room ≡ 0) × (t ≡ s)
not_reserved (Ok x) s t is enough refused = absurd (false≢true is)
not_reserved (Err e) s t is enough refused = (no_room s.room enough, refused.1)

pub begun_without_room : (Encodes : Taking) (Fault : Refusing) (old mid new : Reader) (s t : OpenFrames) (kind : FrameKind) (code start : ℕ) (c : FrameChange) (e : Error) →
    innermost s.frames ≡ Some kind → HasRead IsByte code old mid → start ≡ old.position → c ≡ change_at code → OpensFrame c → s.room ≡ 0 → t ≡ s → new ≡ at_position mid start →
    e.message ≡ message.OutOfMemory → e.offset ≡ mid.start + start → StopsNext (one_read Encodes Fault) e (state_of old s) (state_of new t)
begun_without_room Encodes Fault old mid new s t kind code start c e open_frame reads same changes opens none stays went is at =
    let b = back_to old mid code start reads same in
    let begin : mid.start ≡ old.start = ap (λ (r : Reader). r.start) b.1 in
    let still : frame_memory t.frames t.room ≡ frame_memory s.frames s.room = ap (λ (x : OpenFrames). frame_memory x.frames x.room) stays in
    let room : s.room ≤ t.room = subst (λ (x : OpenFrames). s.room ≤ x.room) (sym stays) (omega arith) in
    room_refused Encodes Fault (state_of old s) (state_of new t) kind code e open_frame (went ∙ b.1) (ap (λ (x : OpenFrames). x.frames) stays) room
    (as_little (frame_memory s.frames s.room) (length s.frames) 10 (frame_memory s.frames s.room) (frame_memory t.frames t.room)
    (memory_stays (frame_memory s.frames s.room) (length s.frames) 10) still) (inl still) b.2
    (subst OpensFrame changes opens) (ap (λ (x : OpenFrames). x.room) stays ∙ none) is (omega (arith, at, begin, same))
