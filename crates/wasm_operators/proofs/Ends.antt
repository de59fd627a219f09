-- The end of a run: without trees, for data that is cut off, and that it is determined.
use Rattle.std.proofs.Common.{◌≡◌, ℕ, zero, suc, ◌+◌, ◌≤◌, List, [], ◌∷◌, ◌++◌, length, replicate, Some, None, Result, Ok, Err, refl, sym, subst, ap, ◌∙◌, append_assoc, arith, inl, inr}
use Rattle.std.specs.Prelude.{◌↔◌, IsOk}
use Rattle.std.proofs.lemmas.Bool.{cases_lt}
use Rattle.std.proofs.lemmas.List.{append-nil}
use Rattle.wasm_below.specs.declared.error.Error.{Error}
use Rattle.wasm_below.specs.declared.features.WasmFeatures.{WasmFeatures}
use Rattle.wasm_below.specs.declared.message.Message.{Message}
use Rattle.wasm_below.specs.declared.message.Message.TheVariants as message
use Rattle.wasm_below.specs.Refusal.{IsReadFault}
use Rattle.wasm_below.specs.Source.{Source, Reader, rest, offset_of, source_of, at_position, MayFollow, Takes}
use Rattle.wasm_grammar.specs.declared.frame_kind.FrameKind.{FrameKind}
use Rattle.wasm_grammar.specs.Role.{ends}
use Rattle.wasm_grammar.specs.Frames.{frames_after, frames_along, innermost}
use Rattle.wasm_grammar.specs.Beginning.{IsWalk}
use Rattle.wasm_grammar.specs.OpenPath.{OpenPath}
use Rattle.wasm_grammar.proofs.Paths.{run_path, same_frames, some_is}
use Rattle.wasm_grammar.proofs.Runs.{ends_complete}
use Rattle.wasm_instr.specs.declared.operator.Operator.{Operator}
use Rattle.wasm_instr.specs.declared.operator.Operator.TheVariants as operator
use Rattle.wasm_instr.specs.Encoding.{EncodesOperator}
use Rattle.wasm_instr.specs.Roles.{role_of, roles_of}
use Rattle.wasm_operators.specs.Expression.{Placed, OfPlaced, operators, LaidOut, Longest, IsPrefixAfter}
use Rattle.wasm_operators.specs.Flat.{IsAllowedFrom}
use Rattle.wasm_operators.specs.Reading.{State, TakesOperators, StopsRun, StopsFinish, Finishes, EndsRun, Decoder}
use Rattle.wasm_operators.specs.Single.{FinishesExpression}
use Rattle.wasm_operators.specs.MainTheorem.{ReadSoFar, BeginningAt, ReadsBeginning, IsNotOutOfMemory, ClosesFrom, IsCut, CutFault, IsCompletedByEnds}
use Rattle.wasm_operators.proofs.LayoutLemmas.{roles_of-append, operators-append, roles_of-ends, laid_append, laid_goes_on, laid_no_longer, laid_same, one_longest, GoesOn, next_allowed, goes_allowed}
use Rattle.wasm_operators.proofs.OneRead.{refused_none, one_refusal, closed_read, read_closed}
use Rattle.wasm_operators.proofs.Premises.{AreEach, Keeps, TakesEach, IsReading, IsDetermined}
use Rattle.wasm_operators.proofs.Runs.{features_stay, read_further, IsStuckFor, stuck, run_flat, no_refusal}

pub one_flat : (Kept : OfPlaced) (frames : List FrameKind) (s : Source) (first second : Placed) → Longest (IsAllowedFrom frames s) Kept first →
    Longest (IsAllowedFrom frames s) Kept second → first ≡ second
one_flat Kept frames s first second p q =
    let le = p.longest second q.beginning q.kept in
    let ge = q.longest first p.beginning p.kept in
    (laid_same s.features s.offset first second p.beginning.beginning q.beginning.beginning p.beginning.more q.beginning.more p.beginning.laid q.beginning.laid
    (sym p.beginning.parts ∙ q.beginning.parts) (omega arith)).0

pub run_closes : (old new : State) (placed : Placed) → TakesOperators old new placed → new.frames ≡ [] → rest new.reader ≡ [] →
    ClosesFrom old.frames (source_of old.reader) placed
run_closes old new placed r closed all = (
  subst (λ bytes. LaidOut old.reader.features (offset_of old.reader) bytes placed) (sym (r.takes.parts ∙ ap (λ x. r.text ++ x) all ∙ append-nil r.text)) r.laid,
  r.frames ∙ ap (λ (x : List FrameKind). Some x) closed,
)

pub closes_run : (old new : State) (placed : Placed) → TakesOperators old new placed → ClosesFrom old.frames (source_of old.reader) placed →
    (new.frames ≡ []) × (rest new.reader ≡ [])
closes_run old new placed r (laid, closes) =
    let both : r.text ++ rest new.reader ≡ rest old.reader ++ [] = sym r.takes.parts ∙ sym (append-nil (rest old.reader)) in (
      some_is (sym r.frames ∙ closes),
      (laid_same old.reader.features (offset_of old.reader) placed placed r.text (rest old.reader) (rest new.reader) [] r.laid laid both refl).2,
    )

closes_exactly : {X : Type 0} (decoder : Decoder) (result : Result X Error) (old new : State) (placed : Placed) →
    TakesOperators old new placed → EndsRun decoder result new → IsOk result ↔ ClosesFrom old.frames (source_of old.reader) placed
closes_exactly decoder (Ok x) old new placed r (closed, all) = (λ ok. run_closes old new placed r closed all, λ closes. refl)
closes_exactly decoder (Err e) old new placed r stops = (
  λ ok. absurd (cc ok),
  λ closes. let end = closes_run old new placed r closes in absurd (no_refusal decoder e new stops end.0 end.1),
)

pub flat_run : {X : Type 0} (Sort : Operator → Type 0) (decoder : Decoder) →
    Keeps Sort decoder.Kept decoder.Encodes → (result : Result X Error) (old new : State) (placed flat : Placed) → TakesOperators old new placed → decoder.Kept placed →
    EndsRun decoder result new → Longest (IsAllowedFrom old.frames (source_of old.reader)) decoder.Kept flat → IsNotOutOfMemory result →
    (placed ≡ flat) × (IsOk result ↔ ClosesFrom old.frames (source_of old.reader) flat)
flat_run Sort decoder keeps result old new placed flat r kept ended h other =
    let same = one_flat decoder.Kept old.frames (source_of old.reader) placed flat
    (run_flat Sort decoder.Kept keeps.each old new placed r kept (stuck decoder Sort keeps.takes result new ended other)) h in (
      same,
      subst (λ ps. IsOk result ↔ ClosesFrom old.frames (source_of old.reader) ps) same (closes_exactly decoder result old new placed r ended),
    )

-- Some operator that the frames allow is encoded at the start of these bytes.
record NextOccurs (Sort : Operator → Type 0) (s : State) (left : List ℕ) : Type 0 where
  op : Operator
  sort : Sort op
  text : List ℕ
  after : List ℕ
  encodes : EncodesOperator s.reader.features text op
  bytes : left ≡ text ++ after
  allowed : frames_after s.frames (role_of op) ≡ None → ⊥

cut_stops : (Sort : Operator → Type 0) (decoder : Decoder) → TakesEach Sort decoder.Encodes → (m : Message) (e : Error)
    (s : State) (more : List ℕ) → e.message ≡ m → StopsRun decoder e s → NextOccurs Sort s (rest s.reader ++ more) →
    CutFault m (rest s.reader)
cut_stops Sort decoder takes m e s more is (inl left) next = subst (λ m. CutFault m (rest s.reader)) (sym left.2 ∙ is) left.0
cut_stops Sort decoder takes m e s more is (inr (some, inl none)) next =
    absurd (next.allowed (ap (λ frames. frames_after frames (role_of next.op)) none.0))
cut_stops Sort decoder takes m e s more is (inr (some, inr (inr memory))) next = subst (λ m. CutFault m (rest s.reader)) (sym memory.0 ∙ is) tt
cut_stops Sort decoder takes m e s more is (inr (some, inr (inl there))) next = by_message m is
  where
    follows : MayFollow e.message more → ⊥
    follows follow =
        next.allowed (refused_none decoder.Encodes decoder.Fault e s there more follow next.text next.after next.op
        (λ allows. takes s.reader.features there.kind next.text next.op next.encodes allows next.sort) next.bytes)

    by_message : (m : Message) → e.message ≡ m → CutFault m (rest s.reader)
    by_message message.OutOfMemory is = tt
    by_message message.EndOfData is = some
    by_message _ is = absurd (follows (subst (λ m. MayFollow m more) (sym is) tt))

right_none : (xs ys : List ℕ) → xs ++ ys ≡ [] → ys ≡ []
right_none [] ys e = e
right_none (x ∷ xs) ys e = absurd (cc e)

pub run_cut : (Sort : Operator → Type 0) (decoder : Decoder) → Keeps Sort decoder.Kept decoder.Encodes → (e : Error)
    (before : List Operator) (old new : State) (placed : Placed) → ReadSoFar before old → TakesOperators old new placed → StopsRun decoder e new →
    IsCut decoder.Kept before (source_of old.reader) → CutFault e.message (rest new.reader)
run_cut Sort decoder keeps e before old new placed h r stops cut =
    cut_stops Sort decoder keeps.takes e.message e new cut.more refl stops next
  where
    whole : rest old.reader ++ cut.more ≡ r.text ++ (rest new.reader ++ cut.more)
    whole = ap (λ z. z ++ cut.more) r.takes.parts ∙ append_assoc r.text (rest new.reader) cut.more

    goes : GoesOn old.reader.features placed cut.whole (rest new.reader ++ cut.more) → NextOccurs Sort new (rest new.reader ++ cut.more)
    goes g =
        record {
          op = g.next.0;
          sort = keeps.each cut.whole cut.kept placed g.others g.next g.parts;
          text = g.text;
          after = g.more;
          encodes = subst (λ f. EncodesOperator f g.text g.next.0) (sym (features_stay old.reader new.reader r.text r.takes)) g.encodes;
          bytes = g.bytes;
          allowed = goes_allowed before old.reader.features placed cut.whole (rest new.reader ++ cut.more) new.frames (read_further before old new placed h r).path
              ([], cut.encodes.1.0, append-nil (roles_of (before ++ operators cut.whole)) ∙ cut.encodes.1.1) g;
        }

    shorter : length cut.whole ≤ length placed → ⊥
    shorter le =
        let e : (rest old.reader ++ cut.more) ++ [] ≡ r.text ++ (rest new.reader ++ cut.more) = append-nil (rest old.reader ++ cut.more) ∙ whole in
        let ge : length placed ≤ length cut.whole = laid_no_longer old.reader.features (offset_of old.reader) cut.whole placed (rest old.reader ++ cut.more)
        r.text (rest new.reader ++ cut.more) cut.encodes.0 r.laid e in
        let same = laid_same old.reader.features (offset_of old.reader) cut.whole placed (rest old.reader ++ cut.more) r.text [] (rest new.reader ++ cut.more)
        cut.encodes.0 r.laid e (omega arith) in
        cut.some (right_none (rest new.reader) cut.more (sym same.2))

    next : NextOccurs Sort new (rest new.reader ++ cut.more)
    next = elim (cases_lt (length placed) (length cut.whole)) [
      | inl lt ↦ goes (laid_goes_on old.reader.features (offset_of old.reader) placed cut.whole r.text (rest old.reader ++ cut.more)
          (rest new.reader ++ cut.more) [] r.laid cut.encodes.0 (sym whole ∙ sym (append-nil (rest old.reader ++ cut.more))) lt)
      | inr le ↦ absurd (shorter le)
    ]

ends_placed : ℕ → ℕ → Placed
ends_placed offset zero = []
ends_placed offset (suc n) = (operator.End, offset) ∷ ends_placed (offset + 1) n

ends_laid : (f : WasmFeatures) (offset n : ℕ) → LaidOut f offset (replicate n 0x0b) (ends_placed offset n)
unfolding ends_placed
ends_laid f offset zero = refl
ends_laid f offset (suc n) = (
  refl,
  0x0b ∷ [],
  replicate n 0x0b,
  refl,
  record { head = 0x0b ∷ []; after = []; parts = refl; code = refl; immediates = refl; enabled = tt },
  ends_laid f (offset + 1) n,
)

ends_operators : (offset n : ℕ) → operators (ends_placed offset n) ≡ replicate n operator.End
unfolding ends_placed
ends_operators offset zero = refl
ends_operators offset (suc n) = ap (λ (ops : List Operator). operator.End ∷ ops) (ends_operators (offset + 1) n)

pub run_completed : (before : List Operator) (old new : State) (placed : Placed) → ReadSoFar before old → TakesOperators old new placed → rest new.reader ≡ [] →
    IsCompletedByEnds before (source_of old.reader) (length new.frames)
run_completed before old new placed h r all =
    let n = length new.frames in
    let o = offset_of old.reader + length r.text in
    let text : r.text ≡ rest old.reader = sym (r.takes.parts ∙ ap (λ x. r.text ++ x) all ∙ append-nil r.text) in
    let laid = laid_append old.reader.features (offset_of old.reader) placed (ends_placed o n) r.text (replicate n 0x0b) r.laid
    (ends_laid old.reader.features o n) in
    let read_so_far = read_further before old new placed h r in
    let walk : IsWalk (roles_of (before ++ operators placed) ++ replicate n ends) = ends_complete (roles_of (before ++ operators placed)) new.frames
    (run_path new.frames (roles_of (before ++ operators placed)) read_so_far.path) in
    let split : before ++ operators (placed ++ ends_placed o n) ≡ (before ++ operators placed) ++ replicate n operator.End =
    ap (λ z. before ++ z) (operators-append placed (ends_placed o n) ∙ ap (λ z. operators placed ++ z) (ends_operators o n)) ∙
    sym (append_assoc before (operators placed) (replicate n operator.End)) in
    let roles : roles_of (before ++ operators (placed ++ ends_placed o n)) ≡ roles_of (before ++ operators placed) ++ replicate n ends = ap roles_of split ∙
    roles_of-append (before ++ operators placed) (replicate n operator.End) ∙ ap (λ z. roles_of (before ++ operators placed) ++ z) (roles_of-ends n) in (
      placed ++ ends_placed o n,
      (
        subst (λ z. LaidOut old.reader.features (offset_of old.reader) (z ++ replicate n 0x0b) (placed ++ ends_placed o n)) text laid,
        subst IsWalk (sym roles) walk,
      ),
    )

abbrev pub SameResult : {X Y : Type 0} → Result X Error → Result Y Error → Type 0
SameResult (Ok x) (Ok y) = Unit {0}
SameResult (Err d) (Err e) = (d.message ≡ e.message) × (d.offset ≡ e.offset)
SameResult _ _ = ⊥

same_stops : (decoder : Decoder) → IsDetermined decoder.Fault → (d e : Error) (s t : State) → t.reader ≡ s.reader →
    t.frames ≡ s.frames → StopsRun decoder d s → StopsRun decoder e t → (d.message ≡ message.OutOfMemory → ⊥) →
    (e.message ≡ message.OutOfMemory → ⊥) → (d.message ≡ e.message) × (d.offset ≡ e.offset)
same_stops decoder determined d e s t reader frames (inl a) (inl b) other others = (a.2 ∙ sym b.2, a.3 ∙ ap offset_of (sym reader) ∙ sym b.3)
same_stops decoder determined d e s t reader frames (inl a) (inr b) other others = absurd (b.0 (ap rest reader ∙ a.0))
same_stops decoder determined d e s t reader frames (inr a) (inl b) other others = absurd (a.0 (ap rest (sym reader) ∙ b.0))
same_stops decoder determined d e s t reader frames (inr a) (inr b) other others =
    one_refusal decoder determined d e s t reader frames a.1 b.1 other others

same_ends : {X Y : Type 0} (decoder : Decoder) → IsDetermined decoder.Fault → (first : Result X Error) (second : Result Y Error)
    (s t : State) → t.reader ≡ s.reader → t.frames ≡ s.frames → EndsRun decoder first s → EndsRun decoder second t →
    IsNotOutOfMemory first → IsNotOutOfMemory second → SameResult first second
same_ends decoder determined (Ok x) (Ok y) s t reader frames a b other others = tt
same_ends decoder determined (Ok x) (Err e) s t reader frames a b other others =
    no_refusal decoder e t b (frames ∙ a.0) (ap rest reader ∙ a.1)
same_ends decoder determined (Err d) (Ok y) s t reader frames a b other others =
    no_refusal decoder d s a (sym frames ∙ b.0) (ap rest (sym reader) ∙ b.1)
same_ends decoder determined (Err d) (Err e) s t reader frames a b other others =
    same_stops decoder determined d e s t reader frames a b other others

record RanOver (reader : Reader) (frames : List FrameKind) (new : State) (placed : Placed) : Type 0 where
  text : List ℕ
  takes : Takes reader new.reader text
  laid : LaidOut reader.features (offset_of reader) text placed
  along : frames_along frames (roles_of (operators placed)) ≡ Some new.frames

ran_over : (old new : State) (placed : Placed) → TakesOperators old new placed → RanOver old.reader old.frames new placed
ran_over old new placed r = record { text = r.text; takes = r.takes; laid = r.laid; along = r.frames }

no_longer_than_stuck : (Kept : Operator → Type 0) (reader : Reader) (frames : List FrameKind) (new end : State) (placed others : Placed) →
    RanOver reader frames new placed → RanOver reader frames end others → AreEach Kept others → IsStuckFor Kept new → length others ≤ length placed
no_longer_than_stuck Kept reader frames new end placed others r q each none =
    elim (cases_lt (length placed) (length others)) [
      | inl lt ↦ absurd (goes (laid_goes_on reader.features (offset_of reader) placed others r.text q.text (rest new.reader) (rest end.reader) r.laid q.laid
          (sym r.takes.parts ∙ q.takes.parts) lt))
      | inr le ↦ le
    ]
  where
    goes : GoesOn reader.features placed others (rest new.reader) → ⊥
    goes g =
        let encodes = subst (λ f. EncodesOperator f g.text g.next.0) (sym (features_stay reader new.reader r.text r.takes)) g.encodes in
        next_allowed reader.features frames new.frames end.frames placed others (rest new.reader) r.along q.along g
        (none g.text g.more g.next.0 encodes (each placed g.others g.next g.parts) g.bytes)

pub run_determined : {X Y : Type 0} (decoder : Decoder) (Kept : Operator → Type 0) → TakesEach Kept decoder.Encodes →
    IsDetermined decoder.Fault → (first : Result X Error) (second : Result Y Error) (old new other end : State) (placed others : Placed) → other.reader ≡ old.reader →
    other.frames ≡ old.frames → TakesOperators old new placed → TakesOperators other end others → AreEach Kept placed → AreEach Kept others →
    EndsRun decoder first new → EndsRun decoder second end → IsNotOutOfMemory first → IsNotOutOfMemory second →
    (placed ≡ others) × (end.reader ≡ new.reader) × (end.frames ≡ new.frames) × SameResult first second
run_determined decoder Kept takes determined first second old new other end placed others reader frames r q each_placed each_others a b memory
    other_memory =
    let r1 = ran_over old new placed r in
    let q1 = subst (λ s. RanOver s old.frames end others) reader (subst (λ fs. RanOver other.reader fs end others) frames (ran_over other end others q)) in
    let le = no_longer_than_stuck Kept old.reader old.frames new end placed others r1 q1 each_others (stuck decoder Kept takes first new a memory) in
    let ge = no_longer_than_stuck Kept old.reader old.frames end new others placed q1 r1 each_placed (stuck decoder Kept takes second end b other_memory) in
    let same = laid_same old.reader.features (offset_of old.reader) placed others r1.text q1.text (rest new.reader) (rest end.reader) r1.laid q1.laid
    (sym r1.takes.parts ∙ q1.takes.parts) (omega arith) in
    let readers : end.reader ≡ new.reader = q1.takes.moved ∙ ap (λ z. at_position old.reader (old.reader.position + length z)) (sym same.1) ∙
    sym r1.takes.moved in
    let stacks : end.frames ≡ new.frames = some_is (sym q1.along ∙ ap (λ ps. frames_along old.frames (roles_of (operators ps))) (sym same.0) ∙ r1.along) in
    (same.0, readers, stacks, same_ends decoder determined first second new end readers stacks a b memory other_memory)

pub reports_closed : (decoder : Decoder) → IsReading decoder.Fault → (e : Error) (s : State) → StopsRun decoder e s →
    (e.message ≡ message.OutOfMemory → ⊥) → (e.message ≡ message.OperatorsRemaining) ↔ (s.frames ≡ [])
reports_closed decoder reading e s (inl left) other = (λ is. absurd (cc (is, left.2)), λ closed. absurd (left.1 closed))
reports_closed decoder reading e s (inr (some, stops)) other =
    (closed_read decoder reading e s stops, read_closed decoder e s stops other)

pub reports_left : (decoder : Decoder) → IsReading decoder.Fault → (e : Error) (s : State) → StopsRun decoder e s →
    (e.message ≡ message.FramesRemain) ↔ ((rest s.reader ≡ []) × (s.frames ≡ [] → ⊥))
reports_left decoder reading e s (inl left) = (λ is. (left.0, left.1), λ h. left.2)
reports_left decoder reading e s (inr (some, inl none)) = (λ is. absurd (cc (is, none.1)), λ h. absurd (some h.0))
reports_left decoder reading e s (inr (some, inr (inl there))) = (
  λ is. absurd (subst IsReadFault is (reading s.reader.features there.kind e.message s.reader e.offset there.fault)),
  λ h. absurd (some h.0),
)
reports_left decoder reading e s (inr (some, inr (inr memory))) = (λ is. absurd (cc (is, memory.0)), λ h. absurd (some h.0))

pub run_left : (decoder : Decoder) → IsReading decoder.Fault → (e : Error) (before : List Operator) (old new : State)
    (placed : Placed) → ReadSoFar before old → TakesOperators old new placed → StopsRun decoder e new → e.message ≡ message.FramesRemain →
    IsCompletedByEnds before (source_of old.reader) (length new.frames)
run_left decoder reading e before old new placed h r stops is =
    run_completed before old new placed h r ((reports_left decoder reading e new stops).0 is).0

longest_at : (Kept : OfPlaced) (m : Message) (before : List Operator) (r : Reader) (placed : Placed) → BeginningAt Kept m before r placed →
    (m ≡ message.OutOfMemory → ⊥) → Longest (IsPrefixAfter before (source_of r)) Kept placed
longest_at Kept message.OutOfMemory before r placed h other = absurd (other refl)
longest_at Kept _ before r placed h other = h

pub beginnings_same : (decoder : Decoder) → IsDetermined decoder.Fault → (before : List Operator)
    (d e : Error) (old new end : State) (placed others : Placed) → ReadsBeginning decoder before d old new placed →
    ReadsBeginning decoder before e old end others → (d.message ≡ message.OutOfMemory → ⊥) → (e.message ≡ message.OutOfMemory → ⊥) →
    (placed ≡ others) × (end.reader ≡ new.reader) × (end.frames ≡ new.frames) × (d.message ≡ e.message) × (d.offset ≡ e.offset)
beginnings_same decoder determined before d e old new end placed others a b other_d other_e =
    let same = one_longest decoder.Kept before (source_of old.reader) placed others (longest_at decoder.Kept d.message before old.reader placed a.at other_d)
    (longest_at decoder.Kept e.message before old.reader others b.at other_e) in
    let layout = laid_same old.reader.features (offset_of old.reader) placed others a.text b.text (rest new.reader) (rest end.reader) a.laid b.laid
    (sym a.takes.parts ∙ b.takes.parts) (ap length same) in
    let readers : end.reader ≡ new.reader = b.takes.moved ∙ ap (λ z. at_position old.reader (old.reader.position + length z)) (sym layout.1) ∙
    sym a.takes.moved in
    let path : OpenPath (roles_of (before ++ operators placed)) end.frames =
    subst (λ (ps : Placed). OpenPath (roles_of (before ++ operators ps)) end.frames) (sym same) b.read_so_far.path in
    let stacks : end.frames ≡ new.frames = same_frames end.frames new.frames (roles_of (before ++ operators placed)) path a.read_so_far.path in
    let both = same_stops decoder determined d e new end readers stacks a.stops b.stops other_d other_e in
    (same, readers, stacks, both.0, both.1)

-- ---- finishing, by the innermost frame

stops_as : (m : Message) (A B : Type 0) (r : Reader) → (A → B) → (B → A) → StopsFinish m A r → StopsFinish m B r
stops_as message.FramesRemain A B r to from stops = λ closed. stops (from closed)
stops_as message.UnexpectedData A B r to from (closed, left) = (to closed, left)
stops_as _ A B r to from stops = stops

closed_frames : (frames : List FrameKind) → innermost frames ≡ None → frames ≡ []
closed_frames [] none = refl
closed_frames (first ∷ inside) none = absurd (cc none)

pub finishes_of : {X : Type 0} (result : Result X Error) (s : State) → FinishesExpression result (innermost s.frames) s.reader → Finishes result s
finishes_of (Ok x) s (closed, all) = (closed_frames s.frames closed, all)
finishes_of (Err e) s (at, stops) =
    (at, stops_as e.message (innermost s.frames ≡ None) (s.frames ≡ []) s.reader (closed_frames s.frames) (ap innermost) stops)
