-- A run of reads, and what its end means.
use Rattle.std.proofs.Common.{◌≡◌, ℕ, ◌+◌, ◌<◌, ◌≤◌, List, [], ◌∷◌, ◌++◌, length, None, Some, Result, Ok, Err, refl, sym, subst, ap, ◌∙◌, length-append, arith, inl, inr}
use Rattle.std.proofs.lemmas.Bool.{cases_lt}
use Rattle.std.proofs.lemmas.List.{append-nil}
use Rattle.std.specs.Option.{option_and_then}
use Rattle.std.specs.Prelude.{max}
use Rattle.wasm_below.specs.declared.error.Error.{Error}
use Rattle.wasm_below.specs.declared.message.Message.{Message}
use Rattle.wasm_below.specs.declared.message.Message.TheVariants as message
use Rattle.wasm_below.specs.Source.{Source, Reader, rest, offset_of, source_of, Takes}
use Rattle.wasm_below.proofs.TakesLemmas.{takes_then, takes_none}
use Rattle.wasm_grammar.specs.declared.frame_kind.FrameKind.{FrameKind}
use Rattle.wasm_grammar.specs.Frames.{frames_after, frames_along}
use Rattle.wasm_grammar.specs.Beginning.{IsWalk}
use Rattle.wasm_grammar.specs.OpenPath.{OpenPath}
use Rattle.wasm_grammar.proofs.Unique.{one_tree}
use Rattle.wasm_grammar.proofs.Runs.{some_of, frames_along-append, path_run, IsSome_of}
use Rattle.wasm_grammar.proofs.Paths.{same_frames}
use Rattle.wasm_grammar.proofs.Steps.{path_start}
use Rattle.wasm_instr.specs.declared.operator.Operator.{Operator}
use Rattle.wasm_instr.specs.Encoding.{EncodesOperator}
use Rattle.wasm_instr.specs.Roles.{role_of, roles_of}
use Rattle.wasm_operators.specs.Expression.{Placed, OfPlaced, operators, LaidOut, AreEncoded, EncodesRest, IsPrefixAfter, Longest}
use Rattle.wasm_operators.specs.Flat.{IsAllowedFrom}
use Rattle.wasm_operators.specs.Openings.{opened_along, most_open}
use Rattle.wasm_operators.specs.Reading.{Taking, State, StopsRead, IsFresh, GrowsLittle, GrowsForFrames, IsUnchanged, TakesOperator, TakesOperators, StopsRun, FramesLeft, StopsFinish, Finishes, EndsRun, RunsToEnd, Decoder}
use Rattle.wasm_operators.specs.Stack.{frame_memory}
use Rattle.wasm_operators.specs.MainTheorem.{ReadSoFar, ReadsTree, BeginningAt, ReadsBeginning, IsWithinDepth, IsNotOutOfMemory}
use Rattle.wasm_operators.proofs.FlatLemmas.{allowed_begins, flat_longest}
use Rattle.wasm_operators.proofs.LayoutLemmas.{roles_of-append, operators-append, laid_append, laid_encoded, both_encoded, encoded_some, path_begins, not_empty, laid_goes_on, laid_no_longer, laid_same, one_longest, GoesOn, next_allowed}
use Rattle.wasm_operators.proofs.OneRead.{may_end, refused_none, is_memory, path_on, read_depth}
use Rattle.wasm_operators.proofs.OpeningLemmas.{twice_opened_along, along_length, opened_along-append}
use Rattle.wasm_operators.proofs.FrameMemory.{memory_stays, little_longer, little_both, little_more, few_frames, most_both, grown_along, grown_both}
use Rattle.wasm_operators.proofs.Premises.{AreEach, IsSound, Keeps, TakesEach}

pub ran_start : (s : State) → TakesOperators s s []
ran_start s = record { text = []; takes = takes_none s.reader; laid = refl; frames = refl; room = omega arith; memory = memory_stays (frame_memory s.frames s.room) (length s.frames) 10; kept = omega arith; deepest = omega arith; grows = inl refl }

pub features_stay : (old new : Reader) (text : List ℕ) → Takes old new text → new.features ≡ old.features
features_stay old new text t = ap (λ (r : Reader). r.features) t.moved

pub ran_one : (Encodes : Taking) → IsSound Encodes → (old new : State) (op : Operator) → TakesOperator Encodes op old new →
    TakesOperators old new ((op, offset_of old.reader) ∷ [])
ran_one Encodes sound old new op t = record {
  text = t.text;
  takes = t.takes;
  laid = (refl, t.text, [], sym (append-nil t.text), sound old.reader.features t.kind t.text op t.encodes, refl);
  frames = ap (option_and_then (λ frames. frames_along {A = Operator} frames [])) t.frames;
  room = let room = t.room in omega (arith, room);
  memory = little_longer (frame_memory old.frames old.room) (length old.frames) (length t.text) (frame_memory new.frames new.room) t.memory;
  kept = t.kept;
  deepest = subst (λ q. max (length old.frames) (most_open q []) ≤ frame_memory new.frames new.room + 1) (sym t.frames) (let kept = t.kept in omega (arith, kept));
  grows = grown_along old new ((op, offset_of old.reader) ∷ []) t.grows;
}

pub ran_join : (old mid new : State) (first second : Placed) → TakesOperators old mid first → TakesOperators mid new second →
    TakesOperators old new (first ++ second)
ran_join old mid new first second r t =
    let offset : offset_of mid.reader ≡ offset_of old.reader + length r.text = ap offset_of r.takes.moved ∙ omega arith in
    let laid : LaidOut old.reader.features (offset_of old.reader + length r.text) t.text second =
    subst (λ n. LaidOut old.reader.features n t.text second) offset
    (subst (λ f. LaidOut f (offset_of mid.reader) t.text second) (features_stay old.reader mid.reader r.text r.takes) t.laid) in
    let roles : roles_of (operators (first ++ second)) ≡ roles_of (operators first) ++ roles_of (operators second) = ap roles_of (operators-append first second) ∙
    roles_of-append (operators first) (operators second) in
    let opened = opened_along-append first second in
    record {
      text = r.text ++ t.text;
      takes = takes_then old.reader mid.reader new.reader r.text t.text r.takes t.takes;
      laid = laid_append old.reader.features (offset_of old.reader) first second r.text t.text r.laid laid;
      frames = ap (frames_along old.frames) roles ∙ frames_along-append old.frames (roles_of (operators first)) (roles_of (operators second)) ∙
          ap (option_and_then (λ frames. frames_along frames (roles_of (operators second)))) r.frames ∙ t.frames;
      room = joined_room old.room mid.room new.room (opened_along first) (opened_along second) (opened_along (first ++ second)) r.room t.room opened;
      memory = subst (λ n. GrowsLittle n old new) (sym (length-append r.text t.text))
          (little_both (frame_memory old.frames old.room) (length old.frames) (length r.text) (frame_memory mid.frames mid.room) (length mid.frames)
          (length t.text) (frame_memory new.frames new.room) r.memory
          (few_frames old.reader.features (offset_of old.reader) first r.text old.frames mid.frames r.laid r.frames) t.memory);
      kept = let first = r.kept in let second = t.kept in omega (arith, first, second);
      deepest = most_both (Some old.frames) first second mid.frames (frame_memory new.frames new.room + 1) r.frames
          (let most = r.deepest in let kept = t.kept in omega (arith, most, kept)) t.deepest;
      grows = grown_both old mid new first second r.frames r.grows t.grows t.kept;
    }
  where
    joined_room : (a b c m n k : ℕ) → a ≤ b + m → b ≤ c + n → k ≡ m + n → a ≤ c + k
    joined_room a b c m n k p q e = omega (arith, p, q, e)

pub ran_push : (Encodes : Taking) → IsSound Encodes → (old mid new : State) (placed : Placed) (op : Operator) → TakesOperators old mid placed →
    TakesOperator Encodes op mid new → TakesOperators old new (placed ++ (op, offset_of mid.reader) ∷ [])
ran_push Encodes sound old mid new placed op r t =
    ran_join old mid new placed ((op, offset_of mid.reader) ∷ []) r (ran_one Encodes sound mid new op t)

right-zero : (n : ℕ) → n + 0 ≡ n
right-zero n = omega arith

pub ran_unchanged : (old mid new : State) (placed : Placed) → TakesOperators old mid placed → IsUnchanged mid new → TakesOperators old new placed
ran_unchanged old mid new placed r (reader, frames, room, memory, grows) =
    let depth = ap length frames in
    record {
      text = r.text;
      takes = subst (λ s. Takes old.reader s r.text) (sym reader) r.takes;
      laid = r.laid;
      frames = r.frames ∙ ap (λ (x : List FrameKind). Some x) (sym frames);
      room = let first = r.room in omega (arith, first, room);
      memory = subst (λ n. GrowsLittle n old new) (right-zero (length r.text))
          (little_more (frame_memory old.frames old.room) (length old.frames) (length r.text) (frame_memory mid.frames mid.room) (length mid.frames) 0
          (frame_memory new.frames new.room) r.memory memory (few_frames old.reader.features (offset_of old.reader) placed r.text old.frames mid.frames r.laid r.frames));
      kept = let first = r.kept in omega (arith, first, room, depth);
      deepest = let most = r.deepest in omega (arith, most, room, depth);
      grows = subst (λ (p : Placed). GrowsForFrames old p new) (append-nil placed)
          (grown_both old mid new placed [] r.frames r.grows (grown_along mid new [] grows) (omega (arith, room, depth)));
    }

pub run_stops : (decoder : Decoder) (e : Error) (mid new : State) → (rest mid.reader ≡ [] → ⊥) → IsUnchanged mid new →
    StopsRead decoder e new → StopsRun decoder e new
run_stops decoder e mid new left same stops = inr (λ none. left (ap rest (sym same.0) ∙ none), stops)

pub fresh_before : (s : State) → IsFresh s → ReadSoFar [] s
fresh_before s fresh = record { encodes = tt; path = subst (OpenPath []) (sym fresh) path_start }

pub read_further : (before : List Operator) (old new : State) (placed : Placed) → ReadSoFar before old → TakesOperators old new placed →
    ReadSoFar (before ++ operators placed) new
read_further before old new placed h r =
    let path : OpenPath (roles_of before ++ roles_of (operators placed)) new.frames =
    path_run (roles_of (operators placed)) old.frames (roles_of before) new.frames h.path r.frames in
    record {
      encodes = subst (λ f. AreEncoded f (before ++ operators placed)) (sym (features_stay old.reader new.reader r.text r.takes))
          (both_encoded old.reader.features before (operators placed) h.encodes
          (laid_encoded old.reader.features (offset_of old.reader) placed r.text r.laid));
      path = subst (λ roles. OpenPath roles new.frames) (sym (roles_of-append before (operators placed))) path;
    }

pub read_one_more : (Encodes : Taking) → IsSound Encodes → (before : List Operator) (op : Operator) (old new : State) → TakesOperator Encodes op old new →
    ReadSoFar before old → ReadSoFar (before ++ op ∷ []) new
read_one_more Encodes sound before op old new t h =
    let one : AreEncoded old.reader.features (op ∷ []) = ((t.text, sound old.reader.features t.kind t.text op t.encodes), tt) in
    record {
      encodes = subst (λ f. AreEncoded f (before ++ op ∷ [])) (sym (features_stay old.reader new.reader t.text t.takes))
          (both_encoded old.reader.features before (op ∷ []) h.encodes one);
      path = path_on before op old.frames new.frames h.path t.frames;
    }

pub read_no_further : (before : List Operator) (old new : State) → IsUnchanged old new → ReadSoFar before old → ReadSoFar before new
read_no_further before old new same h =
    record {
      encodes = subst (λ (r : Reader). AreEncoded r.features before) (sym same.0) h.encodes;
      path = subst (OpenPath (roles_of before)) (sym same.1) h.path;
    }

pub taken_depth : (Encodes : Taking) → IsSound Encodes → (op : Operator) (old new : State) → TakesOperator Encodes op old new → IsWithinDepth old new
taken_depth Encodes sound op old new t =
    let few = read_depth Encodes sound op old new t in
    let position : new.reader.position ≡ old.reader.position + length t.text = ap (λ (r : Reader). r.position) t.takes.moved in
    omega (arith, few, position)

pub taken_ahead : (Encodes : Taking) → IsSound Encodes → (op : Operator) (old new : State) → TakesOperator Encodes op old new →
    offset_of old.reader < offset_of new.reader
taken_ahead Encodes sound op old new t =
    let some = encoded_some old.reader.features op t.text (sound old.reader.features t.kind t.text op t.encodes) in
    let offset : offset_of new.reader ≡ offset_of old.reader + length t.text = ap offset_of t.takes.moved ∙ omega arith in
    omega (arith, some, offset)

pub run_depth : (old new : State) (placed : Placed) → TakesOperators old new placed → IsWithinDepth old new
run_depth old new placed r =
    let a = twice_opened_along old.reader.features (offset_of old.reader) placed r.text r.laid in
    let b = along_length placed old.frames new.frames r.frames in
    let position : new.reader.position ≡ old.reader.position + length r.text = ap (λ (r : Reader). r.position) r.takes.moved in
    omega (arith, a, b, position)

all_taken : (old new : State) (placed : Placed) (r : TakesOperators old new placed) → rest new.reader ≡ [] → r.text ≡ rest old.reader
all_taken old new placed r all = sym (r.takes.parts ∙ ap (λ x. r.text ++ x) all ∙ append-nil r.text)

pub run_tree : (before : List Operator) (old new : State) (placed : Placed) → ReadSoFar before old → TakesOperators old new placed → new.frames ≡ [] →
    rest new.reader ≡ [] → ReadsTree before old new placed
run_tree before old new placed h r closed all =
    let whole = all_taken old new placed r all in
    let walked : IsWalk (roles_of (before ++ operators placed)) =
    subst (OpenPath (roles_of (before ++ operators placed))) closed (read_further before old new placed h r).path in
    record {
      encodes = (subst (λ bytes. LaidOut old.reader.features (offset_of old.reader) bytes placed) whole r.laid, walked);
      tree = walked.0;
      only = (walked.1, λ other e. one_tree other walked.0 (sym e ∙ walked.1));
      closed = closed;
      all = all;
      takes = subst (Takes old.reader new.reader) whole r.takes;
    }

-- No operator of this sort that is encoded after the run may follow.
abbrev pub IsStuckFor : (Operator → Type 0) → State → Type 0
IsStuckFor Kept s = (text more : List ℕ) (op : Operator) → EncodesOperator s.reader.features text op → Kept op → rest s.reader ≡ text ++ more →
    frames_after s.frames (role_of op) ≡ None

pub stuck_run : (decoder : Decoder) (Kept : Operator → Type 0) → TakesEach Kept decoder.Encodes → (e : Error) (s : State) →
    StopsRun decoder e s → (e.message ≡ message.OutOfMemory → ⊥) → IsStuckFor Kept s
stuck_run decoder Kept takes e s (inl left) other text more op encodes kept eb =
    absurd (not_empty s.reader.features op text more encodes (sym left.0 ∙ eb))
stuck_run decoder Kept takes e s (inr (some, inl none)) other text more op encodes kept eb =
    ap (λ frames. frames_after frames (role_of op)) none.0
stuck_run decoder Kept takes e s (inr (some, inr (inl there))) other text more op encodes kept eb =
    refused_none decoder.Encodes decoder.Fault e s there [] (may_end e.message other) text more op
    (λ allows. takes s.reader.features there.kind text op encodes allows kept) (append-nil (rest s.reader) ∙ eb)
stuck_run decoder Kept takes e s (inr (some, inr (inr memory))) other text more op encodes kept eb = absurd (other memory.0)

pub stuck : {X : Type 0} (decoder : Decoder) (Kept : Operator → Type 0) → TakesEach Kept decoder.Encodes →
    (result : Result X Error) (s : State) → EndsRun decoder result s → IsNotOutOfMemory result → IsStuckFor Kept s
stuck decoder Kept takes (Ok x) s (closed, taken) other text more op encodes kept eb =
    absurd (not_empty s.reader.features op text more encodes (sym taken ∙ eb))
stuck decoder Kept takes (Err e) s stops other text more op encodes kept eb =
    stuck_run decoder Kept takes e s stops other text more op encodes kept eb

pub ran_allowed : (old new : State) (placed : Placed) → TakesOperators old new placed → IsAllowedFrom old.frames (source_of old.reader) placed
ran_allowed old new placed r =
    record {
      beginning = r.text;
      more = rest new.reader;
      parts = r.takes.parts;
      laid = r.laid;
      allowed = IsSome_of (frames_along old.frames (roles_of (operators placed))) new.frames r.frames;
    }

pub run_flat : (Sort : Operator → Type 0) (Kept : OfPlaced) → ((ps : Placed) → Kept ps → AreEach Sort ps) → (old new : State) (placed : Placed) →
    TakesOperators old new placed → Kept placed → IsStuckFor Sort new → Longest (IsAllowedFrom old.frames (source_of old.reader)) Kept placed
run_flat Sort Kept each old new placed r kept none = record { beginning = ran_allowed old new placed r; kept = kept; longest = not_longer }
  where
    goes_on : (others : Placed) → IsAllowedFrom old.frames (source_of old.reader) others → Kept others →
        GoesOn old.reader.features placed others (rest new.reader) → ⊥
    goes_on others other too g =
        let some = some_of (frames_along old.frames (roles_of (operators others))) other.allowed in
        let encodes = subst (λ f. EncodesOperator f g.text g.next.0) (sym (features_stay old.reader new.reader r.text r.takes)) g.encodes in
        next_allowed old.reader.features old.frames new.frames some.0 placed others (rest new.reader) r.frames some.1 g
        (none g.text g.more g.next.0 encodes (each others too placed g.others g.next g.parts) g.bytes)

    not_longer : (others : Placed) → IsAllowedFrom old.frames (source_of old.reader) others → Kept others → length others ≤ length placed
    not_longer others other too =
        elim (cases_lt (length placed) (length others)) [
          | inl lt ↦ absurd (goes_on others other too (laid_goes_on old.reader.features (offset_of old.reader) placed others r.text other.beginning
              (rest new.reader) other.more r.laid other.laid (sym r.takes.parts ∙ other.parts) lt))
          | inr le ↦ le
        ]

pub beginning_of_run : (before : List Operator) (old new : State) (placed : Placed) → ReadSoFar before old → TakesOperators old new placed →
    IsPrefixAfter before (source_of old.reader) placed
beginning_of_run before old new placed h r =
    allowed_begins before old.frames (source_of old.reader) placed h.encodes h.path (ran_allowed old new placed r)

pub encoded_longest : (Kept : OfPlaced) (before : List Operator) (s : Source) (whole : Placed) → AreEncoded s.features before → EncodesRest before s whole →
    Kept whole → Longest (IsPrefixAfter before s) Kept whole
encoded_longest Kept before s whole encodes (laid, walked) kept =
    record {
      beginning = record {
        beginning = s.bytes;
        more = [];
        parts = sym (append-nil s.bytes);
        laid = laid;
        begins = path_begins s.features (before ++ operators whole) [] walked
            (both_encoded s.features before (operators whole) encodes (laid_encoded s.features s.offset whole s.bytes laid));
      };
      kept = kept;
      longest = λ others other too.
          laid_no_longer s.features s.offset whole others s.bytes other.beginning other.more laid other.laid (append-nil s.bytes ∙ other.parts);
    }

pub whole_run : (before : List Operator) (old new : State) (placed whole : Placed) → ReadSoFar before old → TakesOperators old new placed →
    EncodesRest before (source_of old.reader) whole → placed ≡ whole → (new.frames ≡ []) × (rest new.reader ≡ [])
whole_run before old new placed whole h r (laid, walked) same =
    let f = old.reader.features in
    let o = offset_of old.reader in
    let both : r.text ++ rest new.reader ≡ rest old.reader ++ [] = sym r.takes.parts ∙ sym (append-nil (rest old.reader)) in
    let walked_too : IsWalk (roles_of (before ++ operators placed)) = subst (λ ps. IsWalk (roles_of (before ++ operators ps))) (sym same) walked in (
      same_frames new.frames [] (roles_of (before ++ operators placed)) (read_further before old new placed h r).path walked_too,
      (laid_same f o placed whole r.text (rest old.reader) (rest new.reader) [] r.laid laid both (ap length same)).2,
    )

pub no_refusal : (decoder : Decoder) (e : Error) (s : State) → StopsRun decoder e s → s.frames ≡ [] →
    rest s.reader ≡ [] → ⊥
no_refusal decoder e s (inl left) closed all = left.1 closed
no_refusal decoder e s (inr (left, stops)) closed all = left all

module _ (Sort : Operator → Type 0) (decoder : Decoder) (keeps : Keeps Sort decoder.Kept decoder.Encodes) where
  pub run_longest : (before : List Operator) (e : Error) (old new : State) (placed : Placed) → ReadSoFar before old → TakesOperators old new placed → decoder.Kept placed →
      StopsRun decoder e new → (e.message ≡ message.OutOfMemory → ⊥) → Longest (IsPrefixAfter before (source_of old.reader)) decoder.Kept placed
  run_longest before e old new placed h r kept stops other =
      flat_longest decoder.Kept before old.frames (source_of old.reader) placed h.encodes h.path
      (run_flat Sort decoder.Kept keeps.each old new placed r kept (stuck_run decoder Sort keeps.takes e new stops other))

  beginning_at : (m : Message) (before : List Operator) (old new : State) (placed : Placed) → ReadSoFar before old → TakesOperators old new placed →
      ((m ≡ message.OutOfMemory → ⊥) → Longest (IsPrefixAfter before (source_of old.reader)) decoder.Kept placed) → BeginningAt decoder.Kept m before old.reader placed
  beginning_at message.OutOfMemory before old new placed h r longest = beginning_of_run before old new placed h r
  beginning_at _ before old new placed h r longest = longest (λ is. absurd (cc is))

  pub run_beginning : (before : List Operator) (e : Error) (old new : State) (placed : Placed) → ReadSoFar before old → TakesOperators old new placed →
      decoder.Kept placed → StopsRun decoder e new → ReadsBeginning decoder before e old new placed
  run_beginning before e old new placed h r kept stops =
      record {
        at = beginning_at e.message before old new placed h r (run_longest before e old new placed h r kept stops);
        text = r.text;
        takes = r.takes;
        laid = r.laid;
        read_so_far = read_further before old new placed h r;
        stops = stops;
      }

  pub run_only : (before : List Operator) (e : Error) (old new : State) (placed whole : Placed) → ReadSoFar before old → TakesOperators old new placed →
      decoder.Kept placed → StopsRun decoder e new → EncodesRest before (source_of old.reader) whole → decoder.Kept whole → e.message ≡ message.OutOfMemory
  run_only before e old new placed whole h r kept stops encodes too =
      elim (is_memory e.message) [
        | inl is ↦ is
        | inr other ↦ (
            let longest = run_longest before e old new placed h r kept stops other in
            let same = one_longest decoder.Kept before (source_of old.reader) placed whole longest
            (encoded_longest decoder.Kept before (source_of old.reader) whole h.encodes encodes too) in
            let end = whole_run before old new placed whole h r encodes same in
            absurd (no_refusal decoder e new stops end.0 end.1)
            )
      ]

pub finish_left : (m : Message) (e : Error) (s : State) → e.message ≡ m → rest s.reader ≡ [] → e.offset ≡ offset_of s.reader →
    StopsFinish m (s.frames ≡ []) s.reader → FramesLeft e s
finish_left message.FramesRemain e s is all at h = (all, h, is, at)
finish_left message.UnexpectedData e s is all at h = absurd (h.1 all)
finish_left _ e s is all at h = absurd h

-- a run to the end of the data, and then finishing
pub run_ended : {X : Type 0} (decoder : Decoder) (result : Result X Error) (s : State) → rest s.reader ≡ [] → Finishes result s → EndsRun decoder result s
run_ended decoder (Ok x) s all h = h
run_ended decoder (Err e) s all h = inl (finish_left e.message e s refl all h.0 h.1)

pub run_from : {X : Type 0} (decoder : Decoder) (Effect : OfPlaced) (result : Result X Error) (start old new : State) → start ≡ old →
    ((placed : Placed) × Effect placed × TakesOperators start new placed) → EndsRun decoder result new → RunsToEnd decoder Effect result old new
run_from decoder Effect result start old new same (placed, effect, takes) ends =
    (placed, effect, subst (λ (s : State). TakesOperators s new placed) same takes, ends)
