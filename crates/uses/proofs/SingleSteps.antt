use Rattle.std.proofs.Common.{◌≡◌, ◌≢◌, ℕ, ◌+◌, ◌<◌, List, [], ◌∷◌, ◌++◌, length, inl, inr, Option, Some, None, IfSome, Result, Ok, Err, IfOk, IfErr, refl, ap, subst, ◌∙◌, append-nil, arith}
use Rattle.std.specs.Prelude.{is_some}
use Rattle.std.specs.Result.{result_err}
use Rattle.std.proofs.lemmas.Option.{option_and_then_some}
use Rattle.wasm_operators.specs.below.declared.error.Error.{Error}
use Rattle.wasm_operators.specs.below.declared.features.WasmFeatures.{WasmFeatures}
use Rattle.wasm_operators.specs.below.declared.message.Message.{Message}
use Rattle.wasm_operators.specs.below.declared.message.Message.TheVariants as message
use Rattle.wasm_operators.specs.below.Refusal.{IsReadFault}
use Rattle.wasm_operators.specs.below.Source.{Reader, rest, offset_of, source_of, reader_of, Takes, BeginsWith}
use Rattle.wasm_operators.specs.grammar.declared.frame_kind.FrameKind.{FrameKind}
use Rattle.wasm_operators.specs.grammar.declared.frame_kind.FrameKind.TheVariants as frame_kind
use Rattle.wasm_operators.specs.grammar.Beginning.{IsWalk}
use Rattle.wasm_operators.specs.grammar.Frames.{innermost, frames_after}
use Rattle.wasm_operators.specs.instr.declared.operator.Operator.{Operator}
use Rattle.wasm_operators.specs.instr.Encoding.{EncodesOperator}
use Rattle.wasm_operators.specs.instr.Roles.{role_of, roles_of}
use Rattle.wasm_operators.specs.opcodes.Allowed.{EncodesAllowed}
use Rattle.wasm_operators.specs.opcodes.OperatorFaults.{OperatorFault}
use Rattle.wasm_operators.specs.opcodes.Refused.{LeadsList}
use Rattle.wasm_operators.specs.Expression.{Placed, operators, LaidOut, EncodesRest, EncodesExpression}
use Rattle.wasm_operators.specs.Next.{NextMayAllocate, ReadsNext, StopsNext, all_operators}
use Rattle.wasm_operators.specs.Reading.{State, TakesOperator, StopsRead, StopsFinish, Decoder}
use Rattle.uses.specs.Complaints.{IsRefusal}
use Rattle.uses.specs.Input.{input}
use Rattle.uses.proofs.Codes.{may_follow}
use Rattle.uses.proofs.Ended.{along}

fault_there : (decoder : Decoder) (e : Error) (s : State) (frame : FrameKind) → innermost s.frames ≡ Some frame → e.message ≢ message.OutOfMemory →
    StopsRead decoder e s → decoder.Fault s.reader.features frame e.message s.reader e.offset
fault_there decoder e s frame inner other (inl (closed, said, at)) =
    let none : innermost [] ≡ Some frame = subst (λ frames. innermost frames ≡ Some frame) closed inner in
    absurd (cc none)
fault_there decoder e s frame inner other (inr (inl there)) =
    let same : there.kind ≡ frame = cc (there.open_frame, inner) in
    subst (λ kind. decoder.Fault s.reader.features kind e.message s.reader e.offset) same there.fault
fault_there decoder e s frame inner other (inr (inr (memory, at, may))) = absurd (other memory)

list_leads : (s : State) → 0 < s.room → NextMayAllocate EncodesAllowed s → (byte : ℕ) × LeadsList byte × BeginsWith byte (rest s.reader)
list_leads s some (inl (kind, inner, byte, begins, leads, none)) = absurd (omega arith)
list_leads s some (inr (kind, inner, may)) = may.leads

pub ends_nowhere : (m : Message) (Closed : Type 0) (r : Reader) → StopsFinish m Closed r → ¬ (Closed × (rest r ≡ []))
ends_nowhere message.FramesRemain Closed r stops (closed, all) = stops closed
ends_nowhere message.UnexpectedData Closed r (there, left) (closed, all) = left all
ends_nowhere _ Closed r stops both = stops

abbrev pub PlaceAfter : Type 0
PlaceAfter = (old new : Reader) (text : List ℕ) → Takes old new text → (offset_of new ≡ offset_of old + length text) × (new.features ≡ old.features)

pub first_then : PlaceAfter → (features : WasmFeatures) (bytes : List ℕ) (old mid : State) (op : Operator) (placed : Placed) → old.reader ≡ reader_of features 0 bytes →
    TakesOperator EncodesAllowed op old mid → EncodesRest (op ∷ []) (source_of mid.reader) placed →
    EncodesExpression (input features bytes) ((op, 0) ∷ placed)
first_then place_of features bytes old mid op placed fresh taken (laid, walk) =
    let takes : Takes (reader_of features 0 bytes) mid.reader taken.text = subst (λ r. Takes r mid.reader taken.text) fresh taken.takes in
    let encodes : EncodesOperator features taken.text op = subst (λ (r : Reader). EncodesOperator r.features taken.text op) fresh taken.encodes.0 in
    let place = place_of (reader_of features 0 bytes) mid.reader taken.text takes in
    let there = subst (λ o. LaidOut features o (rest mid.reader) placed) place.0 (subst (λ f. LaidOut f (offset_of mid.reader) (rest mid.reader) placed) place.1 laid) in
    ((refl, taken.text, rest mid.reader, takes.parts, encodes, there), walk)

pub fault_of : (decoder : Decoder) (e : Error) (old new : State) (frame : FrameKind) → innermost old.frames ≡ Some frame → e.message ≢ message.OutOfMemory →
    StopsNext decoder e old new → decoder.Fault old.reader.features frame e.message old.reader e.offset
fault_of decoder e old new frame inner other (unchanged, stops) =
    let there = fault_there decoder e new frame (ap innermost unchanged.1 ∙ inner) other stops in
    subst (λ (r : Reader). decoder.Fault r.features frame e.message r e.offset) unchanged.0 there

pub fault_before : (e : Error) (old new : State) (frame : FrameKind) → innermost old.frames ≡ Some frame → e.message ≢ message.OutOfMemory →
    StopsNext all_operators e old new → OperatorFault old.reader.features frame e.message old.reader e.offset
fault_before = fault_of all_operators

pub read_fault : (result : Option Error) (old new : State) (frame : FrameKind) → innermost old.frames ≡ Some frame →
    ((m : Message) (r : Reader) (offset : ℕ) → OperatorFault old.reader.features frame m r offset → IsReadFault m) → IsRefusal result old new →
    IfSome result (λ e. e.message ≢ message.OutOfMemory → IsReadFault e.message)
read_fault (Some e) old new frame inner says stopped = λ other. says e.message old.reader e.offset (fault_before e old new frame inner other stopped)
read_fault None old new frame inner says taken = tt

pub refusal_of : (result : Result Operator Error) (old new : State) → ReadsNext result old new → IsRefusal (result_err result) old new
refusal_of (Ok op) old new taken = (op, taken)
refusal_of (Err e) old new stopped = stopped

pub first_read : (result : Result Operator Error) (r : Reader) (old new : State) → old.reader ≡ r → innermost old.frames ≡ Some frame_kind.Block →
    ReadsNext result old new →
    IfOk result (λ op. (text more : List ℕ) × (rest r ≡ text ++ more) × EncodesAllowed r.features frame_kind.Block text op)
first_read (Ok op) r old new same inner taken =
    let kind : taken.kind ≡ frame_kind.Block = cc (taken.open_frame, inner) in
    let encodes = subst (λ k. EncodesAllowed old.reader.features k taken.text op) kind taken.encodes in
    subst (λ (s : Reader). (text more : List ℕ) × (rest s ≡ text ++ more) × EncodesAllowed s.features frame_kind.Block text op) same
    (taken.text, rest new.reader, taken.takes.parts, encodes)
first_read (Err e) r old new same inner stopped = tt

none_there : (e : Error) (s : State) (frame : FrameKind) → innermost s.frames ≡ Some frame → e.message ≢ message.OutOfMemory →
    StopsRead all_operators e s → (op : Operator) (text more : List ℕ) → rest s.reader ≡ text ++ more → EncodesAllowed s.reader.features frame text op → ⊥
none_there e s frame inner other (inl (closed, said, at)) op text more parts encodes =
    let none : innermost [] ≡ Some frame = subst (λ frames. innermost frames ≡ Some frame) closed inner in
    absurd (cc none)
none_there e s frame inner other (inr (inl there)) op text more parts encodes =
    let same : frame ≡ there.kind = cc (there.open_frame, inner) in
    there.refuses [] (may_follow e.message other) text more op (subst (λ kind. EncodesAllowed s.reader.features kind text op) same encodes)
    (append-nil (rest s.reader) ∙ parts)
none_there e s frame inner other (inr (inr (memory, at, may))) op text more parts encodes = other memory

pub first_refused : (result : Result Operator Error) (r : Reader) (old new : State) → old.reader ≡ r → innermost old.frames ≡ Some frame_kind.Block →
    ReadsNext result old new →
    IfErr result (λ e. e.message ≢ message.OutOfMemory → (op : Operator) (text more : List ℕ) → rest r ≡ text ++ more →
    EncodesAllowed r.features frame_kind.Block text op → ⊥)
first_refused (Ok op) r old new same inner taken = tt
first_refused (Err e) r old new same inner (unchanged, stops) = λ other.
    subst (λ (z : Reader). (op : Operator) (text more : List ℕ) → rest z ≡ text ++ more → EncodesAllowed z.features frame_kind.Block text op → ⊥)
    (unchanged.0 ∙ same) (none_there e new frame_kind.Block (ap innermost unchanged.1 ∙ inner) other stops)

pub is_no_expression : (features : WasmFeatures) (bytes : List ℕ) (whole : Placed) →
    (IsWalk (roles_of (operators whole)) → along (frame_kind.Block ∷ []) whole ≡ Some []) →
    ((op : Operator) (text more : List ℕ) → bytes ≡ text ++ more → EncodesAllowed features frame_kind.Block text op → ⊥) →
    EncodesExpression (input features bytes) whole → ⊥
is_no_expression features bytes [] closes none (laid, walk) = absurd (cc (closes walk))
is_no_expression features bytes (p ∷ ps) closes none ((at, text, more, parts, encodes, others), walk) =
    let allowed = option_and_then_some (λ next. along next ps) (frames_after (frame_kind.Block ∷ []) (role_of p.0)) [] (closes walk) (λ next is on. ap is_some is) in
    none p.0 text more parts (encodes, allowed)

abbrev pub IsAsked : Type 0
IsAsked = (e : Error) (s : State) → StopsRead all_operators e s → e.message ≡ message.OutOfMemory → NextMayAllocate EncodesAllowed s

pub first_memory : (result : Result Operator Error) (r : Reader) (old new : State) → IsAsked → old.reader ≡ r → 0 < old.room → ReadsNext result old new →
    IfErr result (λ e. e.message ≡ message.OutOfMemory → (byte : ℕ) × LeadsList byte × BeginsWith byte (rest r))
first_memory (Ok op) r old new asked same some taken = tt
first_memory (Err e) r old new asked same some (unchanged, stops) =
    λ memory. subst (λ s. (byte : ℕ) × LeadsList byte × BeginsWith byte (rest s)) (unchanged.0 ∙ same)
    (list_leads new (omega (arith, some, unchanged.2)) (asked e new stops memory))
