-- One operator that is read with the frames in an array, as by an `OperatorsReader`.
use Rattle.std.proofs.Common.{◌≡◌, ℕ, ◌+◌, ◌<◌, ◌≤◌, List, [], ◌∷◌, length, length-append, length-drop, drop, take, zero, suc, Some, Ok, Err, refl, sym, ap, subst, ◌∙◌, arith, inl, inr}
use Rattle.wasm_operators.specs.below.declared.error.Error.{Error}
use Rattle.wasm_operators.specs.below.declared.message.Message.TheVariants as message
use Rattle.wasm_operators.specs.below.Source.{Reader, rest, offset_of, at_position, Takes}
use Rattle.wasm_operators.specs.grammar.declared.frame_kind.FrameKind.{FrameKind}
use Rattle.wasm_operators.specs.grammar.declared.frame_change.FrameChange.{FrameChange}
use Rattle.wasm_operators.specs.grammar.declared.frame_change.FrameChange.TheVariants as frame_change
use Rattle.wasm_operators.specs.grammar.Frames.{Allows, change_of, frames_after, frames_changed, innermost, opened, OpensFrame}
use Rattle.wasm_operators.specs.instr.declared.operator.Operator.{Operator}
use Rattle.wasm_operators.specs.instr.Roles.{role_of}
use Rattle.wasm_operators.specs.opcodes.Allowed.{EncodesAllowed}
use Rattle.wasm_operators.specs.opcodes.Decoding.{DecodesOperator}
use Rattle.wasm_operators.specs.opcodes.OperatorFaults.{OperatorFault}
use Rattle.wasm_operators.specs.Openings.{opened_by}
use Rattle.wasm_operators.specs.Next.{ListMayAllocate, all_operators_if}
use Rattle.wasm_operators.specs.Reading.{State, TakesOperator, StopsRead, StopsFinish}
use Rattle.wasm_operators.proofs.OneRead.{is_memory}
use Rattle.wasm_c.specs.declared.reader.WasmReader.{WasmReader}
use Rattle.wasm_c.specs.Frames.{kinds}
use Rattle.wasm_view.specs.View.{view_of}
use Rattle.wasm_view.specs.declared.view.WasmOperator.{WasmOperator}
use Rattle.wasm_c.specs.declared.refusal.WasmRefusal.{WasmRefusal}
use Rattle.wasm_c.specs.Refused.{refusal_of, refusal_at, misuse}
use Rattle.wasm_c.specs.Steps.{IsReader, reader_at, reader_moved, state_at, FindsNoRoom, TakesPlain, StopsPlain, FinishesPlain}

-- An error inside the innermost frame stops a read.
pub stops_inside : (e : Error) (s : State) (new : Reader) (kind : FrameKind) → innermost s.frames ≡ Some kind →
    DecodesOperator (EncodesAllowed s.reader.features kind) (OperatorFault s.reader.features kind) (Err e) s.reader new →
    StopsRead (all_operators_if (ListMayAllocate EncodesAllowed)) e s
stops_inside e s new kind inside (same, refused) = elim (is_memory e.message) [
  | inl is ↦
      let memory = refused.memory is in
      inr (inr (is, memory.1, (kind, inside, memory.0)))
  | inr other ↦
      inr (inl (record { kind = kind; open_frame = inside; refuses = refused.refuses; ahead = refused.ahead; fault = refused.fault other }))
]

-- If no frame is open, no operator is read.
pub stops_outside : (e : Error) (bytes frames : List ℕ) (r : WasmReader) → r.depth ≡ 0 → e.message ≡ message.OperatorsRemaining →
    e.offset ≡ offset_of (reader_at bytes r) → StopsRead (all_operators_if (ListMayAllocate EncodesAllowed)) e (state_at bytes r frames)
stops_outside e bytes frames r none is at = inl (ap (λ n. kinds (take n frames)) none, is, at)

opened_one : (c : FrameChange) → OpensFrame c → opened c ≡ 1
opened_one (frame_change.Opens kind) h = refl
opened_one frame_change.Stays h = absurd h
opened_one (frame_change.Turns kind) h = absurd h
opened_one frame_change.Closes h = absurd h

-- The clause of the law `frame_changes` about frames.
abbrev pub FramesFollow : Type 0
FramesFollow = (op : Operator) (frames : List FrameKind) (kind : FrameKind) → innermost frames ≡ Some kind → Allows kind (role_of op) →
    frames_after frames (role_of op) ≡ Some (frames_changed frames (change_of (role_of op)))

pub kinds_length : (list : List ℕ) (n : ℕ) → n ≤ length list → length (kinds (take n list)) ≡ n
kinds_length list zero within = refl
kinds_length [] (suc n) within = absurd (omega (arith, within))
kinds_length (x ∷ xs) (suc n) within = ap suc (kinds_length xs n (omega (arith, within)))

-- The position of a reader after it took a text.
pub moved_to : (r ahead : Reader) (text : List ℕ) → Takes r ahead text → at_position r ahead.position ≡ ahead
moved_to r ahead text takes = ap (λ (a : Reader). at_position r a.position) takes.moved ∙ sym takes.moved

pub within_taken : (r ahead : Reader) (text : List ℕ) → Takes r ahead text → r.position ≤ length r.buffer → ahead.position ≤ length r.buffer
within_taken r ahead text takes within =
    let place : ahead.position ≡ r.position + length text = ap (λ (a : Reader). a.position) takes.moved in
    let sum : length (rest r) ≡ length text + length (rest ahead) = ap length takes.parts ∙ length-append text (rest ahead) in
    omega (arith, place, sum, within, length-drop r.position r.buffer)

-- An operator that the innermost frame allows, and what it does to the frames.
pub takes_inside : FramesFollow → (bytes : List ℕ) (old new : WasmReader) (frames_old frames_new : List ℕ) (ahead : Reader) (kind : FrameKind) (op : Operator) (text : List ℕ)
    (change : FrameChange) → 0 < old.depth → old.depth ≤ length frames_old → innermost (kinds (take old.depth frames_old)) ≡ Some kind →
    EncodesAllowed (reader_at bytes old).features kind text op → Takes (reader_at bytes old) ahead text → change ≡ change_of (role_of op) →
    kinds (take new.depth frames_new) ≡ frames_changed (kinds (take old.depth frames_old)) change →
    new.depth ≤ length frames_old → new.depth ≤ old.depth + opened change →
    length frames_new ≡ length frames_old → reader_at bytes new ≡ ahead →
    TakesOperator EncodesAllowed op (state_at bytes old frames_old) (state_at bytes new frames_new)
takes_inside follow bytes old new frames_old frames_new ahead kind op text change some within inside encodes takes is changed fits most same occurs =
    let were = kinds (take old.depth frames_old) in
    let before : length (kinds (take old.depth frames_old)) ≡ old.depth = kinds_length frames_old old.depth within in
    let after : length (kinds (take new.depth frames_new)) ≡ new.depth = kinds_length frames_new new.depth (omega (arith, fits, same)) in
    let opening : opened change ≡ opened_by op = ap opened is in
    record {
      kind = kind;
      open_frame = inside;
      text = text;
      encodes = encodes;
      takes = subst (λ r. Takes (reader_at bytes old) r text) (sym occurs) takes;
      frames = follow op were kind inside encodes.1 ∙ ap Some (ap (frames_changed were) (sym is) ∙ sym changed);
      room = omega (arith, opening, some, within, fits, most, same);
      memory = omega (arith, before, after, some, within, fits, same);
      kept = omega (arith, before, after, some, within, fits, same);
      grows = inl (omega (arith, before, after, some, within, fits, same));
    }

-- An operator that opens a frame without space for it.
pub finds_no_room : (bytes : List ℕ) (r : WasmReader) (frames : List ℕ) (ahead : Reader) (kind : FrameKind) (op : Operator) (text : List ℕ)
    (change : FrameChange) → innermost (kinds (take r.depth frames)) ≡ Some kind → EncodesAllowed (reader_at bytes r).features kind text op →
    Takes (reader_at bytes r) ahead text → change ≡ change_of (role_of op) → OpensFrame change → r.depth ≡ length frames →
    FindsNoRoom (state_at bytes r frames)
finds_no_room bytes r frames ahead kind op text change inside encodes takes is opens full = record {
  kind = kind;
  open_frame = inside;
  op = op;
  text = text;
  more = rest ahead;
  encodes = encodes;
  there = takes.parts;
  opens = ap opened (sym is) ∙ opened_one change opens;
  full = omega (arith, full);
}

-- An operator inside this frame, its C struct, its effect on the frames, and the reader after it.
abbrev pub Viewed : Reader → FrameKind → Reader → WasmOperator → FrameChange → Type 0
Viewed r kind ahead view change = (op : Operator) × (text : List ℕ) × EncodesAllowed r.features kind text op × Takes r ahead text ×
    (view ≡ view_of (op, offset_of r)) × (change ≡ change_of (role_of op))

-- The position of the reader after the operator.
reader_after : (bytes : List ℕ) (old new : WasmReader) (ahead : Reader) (text : List ℕ) → Takes (reader_at bytes old) ahead text →
    new.position ≡ ahead.position → new.offset ≡ old.offset → new.features ≡ old.features → reader_at bytes new ≡ ahead
reader_after bytes old new ahead text takes moved offset features =
    ap (λ o. reader_at bytes (record new { offset = o })) offset ∙
    ap (λ f. reader_at bytes (record new { offset = old.offset; features = f })) features ∙ ap (at_position (reader_at bytes old)) moved ∙
    moved_to (reader_at bytes old) ahead text takes

pub reader_after_plain : (bytes : List ℕ) (old new : WasmReader) (start ahead : Reader) (kind : FrameKind) (view : WasmOperator) (change : FrameChange) →
    start ≡ reader_at bytes old → Viewed start kind ahead view change → new.position ≡ ahead.position → new.offset ≡ old.offset →
    new.features ≡ old.features → ahead ≡ reader_at bytes new
reader_after_plain bytes old new start ahead kind view change same viewed moved offset features =
    let v = subst (λ r. Viewed r kind ahead view change) same viewed in
    sym (reader_after bytes old new ahead v.1 v.3 moved offset features)

-- An operator that is read.
pub takes_plain : FramesFollow → (bytes : List ℕ) (old new : WasmReader) (frames_old frames_new : List ℕ) (start ahead : Reader) (kind : FrameKind) (view : WasmOperator)
    (change : FrameChange) → IsReader bytes (length frames_old) old → start ≡ reader_at bytes old → Viewed start kind ahead view change → 0 < old.depth →
    innermost (kinds (take old.depth frames_old)) ≡ Some kind →
    kinds (take new.depth frames_new) ≡ frames_changed (kinds (take old.depth frames_old)) change →
    new.depth ≤ length frames_old → new.depth ≤ old.depth + opened change →
    length frames_new ≡ length frames_old → drop new.depth frames_new ≡ drop new.depth frames_old → new.position ≡ ahead.position →
    new.offset ≡ old.offset → new.features ≡ old.features → new ≡ reader_moved old new.position new.depth → TakesPlain bytes old new frames_old frames_new view
takes_plain follow bytes old new frames_old frames_new start ahead kind view change was same viewed some inside changed fits most room past moved offset features
    pinned =
    let v = subst (λ r. Viewed r kind ahead view change) same viewed in
    let r = reader_at bytes old in
    let occurs = reader_after bytes old new ahead v.1 v.3 moved offset features in
    let place = within_taken r ahead v.1 v.3 was.position in
    record {
      op = v.0;
      was = was;
      takes = takes_inside follow bytes old new frames_old frames_new ahead kind v.0 v.1 change some was.depth inside v.2 v.3 v.5 changed fits most room
          occurs;
      view_is = v.4;
      still = record {
        features = omega (arith, features, was.features);
        offsets = omega (arith, offset, was.offsets);
        position = omega (arith, moved, place);
        depth = omega (arith, fits, room);
      };
      moved = pinned;
      same_room = room;
      past = past;
    }

-- If no frame is open, none is read.
pub outside_plain : (bytes frames : List ℕ) (r : WasmReader) (start : Reader) (e : Error) (offset : ℕ) (refusal : WasmRefusal) →
    IsReader bytes (length frames) r → start ≡ reader_at bytes r → r.depth ≡ 0 → e.message ≡ message.OperatorsRemaining → e.offset ≡ offset →
    offset ≡ offset_of start → refusal ≡ refusal_of e → StopsPlain refusal bytes r frames
outside_plain bytes frames r start e offset refusal was same none is at place reported =
    inl (was, e, reported, stops_outside e bytes frames r none is (at ∙ place ∙ ap offset_of same))

-- An operator without space for its frame.
pub no_room_plain : (bytes frames : List ℕ) (r : WasmReader) (start ahead : Reader) (kind : FrameKind) (view : WasmOperator) (change : FrameChange) (offset : ℕ)
    (refusal : WasmRefusal) → IsReader bytes (length frames) r → start ≡ reader_at bytes r → Viewed start kind ahead view change →
    innermost (kinds (take r.depth frames)) ≡ Some kind → OpensFrame change → r.depth ≡ length frames → offset ≡ offset_of start →
    refusal ≡ misuse 102 offset → StopsPlain refusal bytes r frames
no_room_plain bytes frames r start ahead kind view change offset refusal was same viewed inside opened full at is =
    let v = subst (λ r. Viewed r kind ahead view change) same viewed in
    let place : offset ≡ offset_of (reader_at bytes r) = at ∙ ap offset_of same in
    inr (inl (was, is ∙ ap (misuse 102) place, finds_no_room bytes r frames ahead kind v.0 v.1 change inside v.2 v.3 v.5 opened full))

-- An operator that is an error.
pub refused_plain : (bytes frames : List ℕ) (r : WasmReader) (start ahead : Reader) (kind : FrameKind) (e : Error) (refusal : WasmRefusal) →
    IsReader bytes (length frames) r → start ≡ reader_at bytes r → innermost (kinds (take r.depth frames)) ≡ Some kind →
    DecodesOperator (EncodesAllowed start.features kind) (OperatorFault start.features kind) (Err e) start ahead → refusal ≡ refusal_of e →
    StopsPlain refusal bytes r frames
refused_plain bytes frames r start ahead kind e refusal was same inside refuses is =
    let there =
    subst (λ (s : Reader). DecodesOperator (EncodesAllowed s.features kind) (OperatorFault s.features kind) (Err e) s ahead) same refuses in
    inl (was, e, is, stops_inside e (state_at bytes r frames) ahead kind inside there)

-- If frames are open, an expression does not end.
pub frames_left : (bytes frames : List ℕ) (r : WasmReader) (start : Reader) (e : Error) (offset : ℕ) (refusal : WasmRefusal) →
    IsReader bytes (length frames) r → start ≡ reader_at bytes r → 0 < r.depth → e.message ≡ message.FramesRemain → e.offset ≡ offset →
    offset ≡ offset_of start → refusal ≡ refusal_of e → FinishesPlain refusal bytes r frames
frames_left bytes frames r start e offset refusal was same some is at place reported =
    let still : kinds (take r.depth frames) ≡ [] → ⊥ =
    λ none. let n = kinds_length frames r.depth was.depth in let zero = ap length none in absurd (omega (arith, some, n, zero)) in
    inl (
      was,
      Err e,
      reported,
      (
        at ∙ place ∙ ap offset_of same,
        subst (λ m. StopsFinish m (kinds (take r.depth frames) ≡ []) (reader_at bytes r)) (sym is) still,
      ),
    )

-- If bytes are left, an expression does not end.
pub data_left : (bytes frames : List ℕ) (r : WasmReader) (start : Reader) (e : Error) (offset : ℕ) (refusal : WasmRefusal) →
    IsReader bytes (length frames) r → start ≡ reader_at bytes r → r.depth ≡ 0 → (rest start ≡ [] → ⊥) → e.message ≡ message.UnexpectedData →
    e.offset ≡ offset → offset ≡ offset_of start → refusal ≡ refusal_of e → FinishesPlain refusal bytes r frames
data_left bytes frames r start e offset refusal was same none more is at place reported =
    let closed : kinds (take r.depth frames) ≡ [] = ap (λ n. kinds (take n frames)) none in
    let left : rest (reader_at bytes r) ≡ [] → ⊥ = λ all. more (ap rest same ∙ all) in
    inl (
      was,
      Err e,
      reported,
      (
        at ∙ place ∙ ap offset_of same,
        subst (λ m. StopsFinish m (kinds (take r.depth frames) ≡ []) (reader_at bytes r)) (sym is) (closed, left),
      ),
    )

-- Otherwise it ends.
pub finished : (bytes frames : List ℕ) (r : WasmReader) (start : Reader) (offset : ℕ) (refusal : WasmRefusal) →
    IsReader bytes (length frames) r → start ≡ reader_at bytes r → r.depth ≡ 0 → rest start ≡ [] → offset ≡ offset_of start →
    refusal ≡ refusal_at {X = Unit {0}} (Ok tt) offset → FinishesPlain refusal bytes r frames
finished bytes frames r start offset refusal was same none all place reported =
    let closed : kinds (take r.depth frames) ≡ [] = ap (λ n. kinds (take n frames)) none in
    inl (was, Ok tt, reported ∙ ap (refusal_at {X = Unit {0}} (Ok tt)) (place ∙ ap offset_of same), (closed, ap rest (sym same) ∙ all))
