use Rattle.std.proofs.Common.{◌≡◌, ℕ, ◌+◌, ◌*◌, ◌≤◌, List, [], ◌∷◌, ◌++◌, length, Option, Some, None, refl, sym, subst, ap, ◌∙◌, arith, ◌⊎◌, inl, inr}
use Rattle.std.proofs.lemmas.List.{append-nil}
use Rattle.wasm_below.specs.declared.error.Error.{Error}
use Rattle.wasm_below.specs.declared.message.Message.{Message}
use Rattle.wasm_below.specs.declared.message.Message.TheVariants as message
use Rattle.wasm_below.specs.Fault.{HasFault}
use Rattle.wasm_below.specs.Refusal.{IsReadFault}
use Rattle.wasm_below.specs.Source.{Reader, rest, offset_of, MayFollow, Refuses, IsAhead}
use Rattle.wasm_grammar.specs.declared.frame_kind.FrameKind.{FrameKind}
use Rattle.wasm_grammar.specs.Frames.{Allows, frames_after, innermost, replacement}
use Rattle.wasm_grammar.specs.OpenPath.{OpenPath}
use Rattle.wasm_grammar.proofs.Innermost.{may_not_step, innermost_not_empty}
use Rattle.wasm_grammar.proofs.Runs.{IsSome_of}
use Rattle.wasm_grammar.proofs.Steps.{path_step}
use Rattle.wasm_instr.specs.declared.operator.Operator.{Operator}
use Rattle.wasm_instr.specs.Roles.{role_of, roles_of}
use Rattle.wasm_operators.specs.Reading.{Taking, Refusing, State, TakesOperator, IsRefusedThere, StopsRead, Decoder}
use Rattle.wasm_operators.proofs.LayoutLemmas.{roles_of-append}
use Rattle.wasm_operators.proofs.OpeningLemmas.{twice_opened, after_length}
use Rattle.wasm_operators.proofs.Premises.{IsSound, IsReading, IsDetermined}
use Rattle.wasm_operators.specs.Next.{all_operators, collecting}
use Rattle.wasm_grammar.proofs.Paths.{some_is}

pub is_memory : (m : Message) → (m ≡ message.OutOfMemory) ⊎ (m ≡ message.OutOfMemory → ⊥)
is_memory message.OutOfMemory = inl refl
is_memory _ = inr (λ e. cc e)

pub may_end : (m : Message) → (m ≡ message.OutOfMemory → ⊥) → MayFollow m []
may_end message.EndOfData other = refl
may_end message.OutOfMemory other = absurd (other refl)
may_end _ other = tt

pub stops_read : (decoder : Decoder) (e : Error) (old new : State) (kind : FrameKind) → new.reader ≡ old.reader →
    new.frames ≡ old.frames → innermost old.frames ≡ Some kind → Refuses (decoder.Encodes old.reader.features kind) (rest old.reader) e.message →
    IsAhead old.reader e.offset → HasFault (decoder.Fault old.reader.features kind) e old.reader →
    (e.message ≡ message.OutOfMemory → (e.offset ≡ offset_of old.reader) × decoder.Allocates new) → StopsRead decoder e new
stops_read decoder e old new kind reader frames open_frame refuses ahead fault memory =
    elim (is_memory e.message) [
      | inl is ↦ inr (inr (is, (memory is).0 ∙ ap offset_of (sym reader), (memory is).1))
      | inr other ↦ inr (inl (record {
        kind = kind;
        open_frame = ap innermost frames ∙ open_frame;
        refuses = subst (λ (r : Reader). Refuses (decoder.Encodes r.features kind) (rest r) e.message) (sym reader) refuses;
        ahead = subst (λ r. IsAhead r e.offset) (sym reader) ahead;
        fault = subst (λ (r : Reader). decoder.Fault r.features kind e.message r e.offset) (sym reader) (fault other);
      }))
    ]

pub stops_collecting : (e : Error) (s : State) → StopsRead all_operators e s → StopsRead collecting e s
stops_collecting e s (inl none) = inl none
stops_collecting e s (inr (inl there)) = inr (inl there)
stops_collecting e s (inr (inr memory)) = inr (inr (memory.0, memory.1, tt))

pub refused_none : (Encodes : Taking) (Fault : Refusing) (e : Error) (s : State) (h : IsRefusedThere Encodes Fault e s) (after : List ℕ) →
    MayFollow e.message after → (text more : List ℕ) (op : Operator) → (Allows h.kind (role_of op) → Encodes s.reader.features h.kind text op) →
    rest s.reader ++ after ≡ text ++ more → frames_after s.frames (role_of op) ≡ None
refused_none Encodes Fault e s h after follow text more op taken eb = go (replacement h.kind (role_of op)) refl
  where
    go : (next : Option (List FrameKind)) → replacement h.kind (role_of op) ≡ next → frames_after s.frames (role_of op) ≡ None
    go None none = may_not_step s.frames h.kind (role_of op) h.open_frame none
    go (Some next) some = absurd (h.refuses after follow text more op (taken (IsSome_of (replacement h.kind (role_of op)) next some)) eb)

pub path_on : (before : List Operator) (op : Operator) (frames next : List FrameKind) → OpenPath (roles_of before) frames →
    frames_after frames (role_of op) ≡ Some next → OpenPath (roles_of (before ++ op ∷ [])) next
path_on before op frames next path step =
    subst (λ roles. OpenPath roles next) (sym (roles_of-append before (op ∷ []))) (path_step frames (roles_of before) (role_of op) next path step)

pub read_depth : (Encodes : Taking) → IsSound Encodes → (op : Operator) (old new : State) (t : TakesOperator Encodes op old new) →
    2 * length new.frames ≤ 2 * length old.frames + length t.text
read_depth Encodes sound op old new t =
    let a = twice_opened old.reader.features op t.text (sound old.reader.features t.kind t.text op t.encodes) in
    let b = after_length old.frames (role_of op) new.frames t.frames in
    omega (arith, a, b)

pub closed_read : (decoder : Decoder) → IsReading decoder.Fault → (e : Error) (s : State) → StopsRead decoder e s →
    e.message ≡ message.OperatorsRemaining → s.frames ≡ []
closed_read decoder reading e s (inl none) is = none.0
closed_read decoder reading e s (inr (inl there)) is =
    absurd (subst IsReadFault is (reading s.reader.features there.kind e.message s.reader e.offset there.fault))
closed_read decoder reading e s (inr (inr memory)) is = absurd (cc (is, memory.0))

pub read_closed : (decoder : Decoder) (e : Error) (s : State) → StopsRead decoder e s →
    (e.message ≡ message.OutOfMemory → ⊥) → s.frames ≡ [] → e.message ≡ message.OperatorsRemaining
read_closed decoder e s (inl none) other closed = none.1
read_closed decoder e s (inr (inl there)) other closed = absurd (innermost_not_empty s.frames there.kind there.open_frame closed)
read_closed decoder e s (inr (inr memory)) other closed = absurd (other memory.0)

pub refused_not_taken : (decoder : Decoder) (e : Error) (s t new : State) (op : Operator) → t.reader ≡ s.reader →
    t.frames ≡ s.frames → StopsRead decoder e s → (e.message ≡ message.OutOfMemory → ⊥) → TakesOperator decoder.Encodes op t new → ⊥
refused_not_taken decoder e s t new op same_reader same_frames (inl none) other takes =
    innermost_not_empty t.frames takes.kind takes.open_frame (same_frames ∙ none.0)
refused_not_taken decoder e s t new op same_reader same_frames (inr (inl there)) other takes =
    let kinds : takes.kind ≡ there.kind = some_is (sym takes.open_frame ∙ ap innermost same_frames ∙ there.open_frame) in
    let features : t.reader.features ≡ s.reader.features = ap (λ (r : Reader). r.features) same_reader in
    let encodes : decoder.Encodes s.reader.features there.kind takes.text op =
    subst (λ f. decoder.Encodes f there.kind takes.text op) features (subst (λ k. decoder.Encodes t.reader.features k takes.text op) kinds takes.encodes) in
    there.refuses [] (may_end e.message other) takes.text (rest new.reader) op encodes
    (append-nil (rest s.reader) ∙ ap rest (sym same_reader) ∙ takes.takes.parts)
refused_not_taken decoder e s t new op same_reader same_frames (inr (inr memory)) other takes = other memory.0

pub one_refusal : (decoder : Decoder) → IsDetermined decoder.Fault → (d e : Error) (s t : State) → t.reader ≡ s.reader →
    t.frames ≡ s.frames → StopsRead decoder d s → StopsRead decoder e t → (d.message ≡ message.OutOfMemory → ⊥) →
    (e.message ≡ message.OutOfMemory → ⊥) → (d.message ≡ e.message) × (d.offset ≡ e.offset)
one_refusal decoder determined d e s t reader frames (inr (inr memory)) b other others = absurd (other memory.0)
one_refusal decoder determined d e s t reader frames a (inr (inr memory)) other others = absurd (others memory.0)
one_refusal decoder determined d e s t reader frames (inl a) (inl b) other others =
    (a.1 ∙ sym b.1, a.2 ∙ ap offset_of (sym reader) ∙ sym b.2)
one_refusal decoder determined d e s t reader frames (inl a) (inr (inl b)) other others =
    absurd (innermost_not_empty t.frames b.kind b.open_frame (frames ∙ a.0))
one_refusal decoder determined d e s t reader frames (inr (inl a)) (inl b) other others =
    absurd (innermost_not_empty s.frames a.kind a.open_frame (sym frames ∙ b.0))
one_refusal decoder determined d e s t reader frames (inr (inl a)) (inr (inl b)) other others =
    let kinds : b.kind ≡ a.kind = some_is (sym b.open_frame ∙ ap innermost frames ∙ a.open_frame) in
    let features : t.reader.features ≡ s.reader.features = ap (λ (r : Reader). r.features) reader in
    let one : decoder.Fault t.reader.features a.kind e.message t.reader e.offset = subst (λ k. decoder.Fault t.reader.features k e.message t.reader e.offset) kinds b.fault in
    let two : decoder.Fault s.reader.features a.kind e.message t.reader e.offset = subst (λ f. decoder.Fault f a.kind e.message t.reader e.offset) features one in
    let three : decoder.Fault s.reader.features a.kind e.message s.reader e.offset = subst (λ r. decoder.Fault s.reader.features a.kind e.message r e.offset) reader two in
    determined s.reader.features a.kind d.message e.message s.reader d.offset e.offset a.fault three
