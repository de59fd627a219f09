use Rattle.std.proofs.Common.{◌≡◌, ℕ, ◌+◌, List, ◌++◌, length, sym, subst, ap, ◌∙◌, inl, inr}
use Rattle.wasm_below.specs.declared.error.Error.{Error}
use Rattle.wasm_below.specs.declared.message.Message.TheVariants as message
use Rattle.wasm_below.specs.Source.{Reader, rest, at_position}
use Rattle.wasm_grammar.specs.declared.frame_kind.FrameKind.{FrameKind}
use Rattle.wasm_grammar.specs.Frames.{frames_after}
use Rattle.wasm_instr.specs.declared.operator.Operator.{Operator}
use Rattle.wasm_instr.specs.Encoding.{EncodesOperator}
use Rattle.wasm_instr.specs.Roles.{role_of}
use Rattle.wasm_instr.proofs.OperatorPrefixCode.{operator_prefix_code}
use Rattle.wasm_operators.specs.Reading.{Taking, Refusing, State, SameReaderAndFrames, TakesOperator}
use Rattle.wasm_operators.specs.Next.{StopsNext}
use Rattle.wasm_operators.proofs.OneRead.{is_memory, refused_not_taken, one_refusal}
use Rattle.wasm_operators.proofs.Premises.{IsSound, IsDetermined}
use Rattle.wasm_operators.proofs.Taken.{one_read}
use Rattle.wasm_grammar.proofs.Paths.{some_is}

pub taken_same : (Encodes : Taking) → IsSound Encodes → (op other : Operator) (old new start end : State) → SameReaderAndFrames old start →
    TakesOperator Encodes op old new → TakesOperator Encodes other start end → (op ≡ other) × SameReaderAndFrames new end
taken_same Encodes sound op other old new start end agree a b =
    let features : start.reader.features ≡ old.reader.features = ap (λ (r : Reader). r.features) agree.0 in
    let first : EncodesOperator old.reader.features a.text op = sound old.reader.features a.kind a.text op a.encodes in
    let second : EncodesOperator old.reader.features b.text other =
    subst (λ f. EncodesOperator f b.text other) features (sound start.reader.features b.kind b.text other b.encodes) in
    let whole : a.text ++ rest new.reader ≡ b.text ++ rest end.reader = sym a.takes.parts ∙ ap rest (sym agree.0) ∙ b.takes.parts in
    let same = operator_prefix_code old.reader.features op other a.text b.text (rest new.reader) (rest end.reader) first second whole in
    let there : at_position start.reader (start.reader.position + length b.text) ≡ at_position old.reader (old.reader.position + length b.text) =
    ap (λ (r : Reader). at_position r (r.position + length b.text)) agree.0 in
    let long : at_position old.reader (old.reader.position + length b.text) ≡ at_position old.reader (old.reader.position + length a.text) =
    ap (λ (t : List ℕ). at_position old.reader (old.reader.position + length t)) (sym same.1) in
    let reader : end.reader ≡ new.reader = b.takes.moved ∙ there ∙ long ∙ sym a.takes.moved in
    let step : frames_after start.frames (role_of other) ≡ frames_after old.frames (role_of op) =
    ap (λ (frames : List FrameKind). frames_after frames (role_of other)) agree.1 ∙ ap (λ o. frames_after old.frames (role_of o)) (sym same.0) in
    let frames : end.frames ≡ new.frames = some_is (sym b.frames ∙ step ∙ a.frames) in
    (same.0, (reader, frames))

pub stopped_same : (Encodes : Taking) (Fault : Refusing) → IsDetermined Fault → (d e : Error) (old new start end : State) → SameReaderAndFrames old start →
    StopsNext (one_read Encodes Fault) d old new → (d.message ≡ message.OutOfMemory → ⊥) → StopsNext (one_read Encodes Fault) e start end → (e.message ≡ message.OutOfMemory → ⊥) →
    (d.message ≡ e.message) × (d.offset ≡ e.offset) × SameReaderAndFrames new end
stopped_same Encodes Fault determined d e old new start end agree a other b others =
    let reader : end.reader ≡ new.reader = b.0.0 ∙ agree.0 ∙ sym a.0.0 in
    let frames : end.frames ≡ new.frames = b.0.1 ∙ agree.1 ∙ sym a.0.1 in
    let same = one_refusal (one_read Encodes Fault) determined d e new end reader frames a.1 b.1 other others in
    (same.0, same.1, (reader, frames))

pub taken_or_memory : (Encodes : Taking) (Fault : Refusing) (e : Error) (op : Operator) (old new start end : State) → SameReaderAndFrames old start →
    TakesOperator Encodes op old new → StopsNext (one_read Encodes Fault) e start end → e.message ≡ message.OutOfMemory
taken_or_memory Encodes Fault e op old new start end agree takes stops =
    elim (is_memory e.message) [
      | inl is ↦ is
      | inr other ↦ absurd (refused_not_taken (one_read Encodes Fault) e end old new op (sym agree.0 ∙ sym stops.0.0) (sym agree.1 ∙ sym stops.0.1)
          stops.1 other takes)
    ]
