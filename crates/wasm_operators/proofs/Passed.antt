-- A constant expression, after operators without `end`.
use Rattle.std.proofs.Common.{◌≡◌, ℕ, ◌+◌, ◌-◌, ◌<◌, ◌≤◌, List, [], ◌∷◌, ◌++◌, length, Some, None, inl, inr, refl, sym, subst, ap, ◌∙◌, append_assoc, length-append, length-drop, arith}
use Rattle.std.proofs.lemmas.Bool.{cases_lt}
use Rattle.wasm_below.specs.declared.message.Message.TheVariants as message
use Rattle.wasm_below.specs.Source.{Reader, rest, offset_of, end_of, Takes, NoPrefix, IsAhead, BeginsWith}
use Rattle.wasm_grammar.specs.declared.frame_kind.FrameKind.TheVariants as frame
use Rattle.wasm_grammar.specs.Frames.{frames_after, frames_along, without_innermost}
use Rattle.wasm_grammar.proofs.Innermost.{frames_follow}
use Rattle.wasm_grammar.proofs.Runs.{IsSome_of, walk_runs_out}
use Rattle.wasm_instr.specs.declared.operator.Operator.{Operator}
use Rattle.wasm_instr.specs.declared.operator.Operator.TheVariants as operator
use Rattle.wasm_instr.specs.Encoding.{EncodesOperator}
use Rattle.wasm_instr.specs.Roles.{role_of, roles_of}
use Rattle.wasm_decode_opcodes.specs.Allowed.{EncodesAllowed}
use Rattle.wasm_operators.proofs.DecoderPremises.{sound}
use Rattle.wasm_operators.specs.Expression.{Placed, operators}
use Rattle.wasm_operators.proofs.LayoutLemmas.{laid_goes_on, laid_beginning, laid_same, next_allowed}
use Rattle.wasm_operators.specs.Reading.{State, IsFresh, TakesOperators, TakesOperator}
use Rattle.wasm_operators.proofs.Runs.{features_stay, ran_push}
use Rattle.wasm_operators.specs.Constant.{HasNoEnd, EncodesConstantReader}
use Rattle.wasm_operators.specs.ConstantFaults.{PassesOperators, ConstantFault}
use Rattle.wasm_operators.proofs.OneEnd.{not_beginning, not_longer, constant_at, passed_end, end_byte}

pub from_block : (s t : State) (placed : Placed) → IsFresh s → TakesOperators s t placed → frames_along (frame.Block ∷ []) (roles_of (operators placed)) ≡ Some t.frames
from_block s t placed fresh r = subst (λ frames. frames_along frames (roles_of (operators placed)) ≡ Some t.frames) fresh r.frames

pub passes : (s t : State) (placed : Placed) → IsFresh s → TakesOperators s t placed → HasNoEnd (operators placed) → PassesOperators s.reader t.reader t.frames
passes s t placed fresh r no_end =
    record { placed = placed; no_end = no_end; text = r.text; takes = r.takes; laid = r.laid; along = from_block s t placed fresh r }

parts_of : (s t : State) (placed : Placed) (r : TakesOperators s t placed) (more text left : List ℕ) → rest s.reader ++ more ≡ text ++ left →
    r.text ++ (rest t.reader ++ more) ≡ text ++ left
parts_of s t placed r more text left e = sym (append_assoc r.text (rest t.reader) more) ∙ ap (λ z. z ++ more) (sym r.takes.parts) ∙ e

pub none_follows : (s t : State) (placed : Placed) (more : List ℕ) → IsFresh s → TakesOperators s t placed → HasNoEnd (operators placed) →
    ((text after : List ℕ) (op : Operator) → EncodesOperator t.reader.features text op → rest t.reader ++ more ≡ text ++ after →
    frames_after t.frames (role_of op) ≡ None) → NoPrefix (EncodesConstantReader s.reader.features) (rest s.reader ++ more)
none_follows s t placed more fresh r no_end stuck text left x encodes eq =
    let f = s.reader.features in
    let o = offset_of s.reader in
    let c = constant_at f text x o encodes in
    let whole = parts_of s t placed r more text left eq in
    elim (cases_lt (length placed) (length c.0)) [
      | inl lt ↦ (
          let g = laid_goes_on f o placed c.0 r.text text (rest t.reader ++ more) left r.laid c.1 whole lt in
          let there = subst (λ f. EncodesOperator f g.text g.next.0) (sym (features_stay s.reader t.reader r.text r.takes)) g.encodes in
          next_allowed f (frame.Block ∷ []) t.frames [] placed c.0 (rest t.reader ++ more) (from_block s t placed fresh r)
          (walk_runs_out (roles_of (operators c.0)) c.2.0 c.2.1) g (stuck g.text g.more g.next.0 there g.bytes)
          )
      | inr le ↦ not_beginning c.0 placed c.3 no_end (laid_beginning f o c.0 placed text r.text left (rest t.reader ++ more) c.1 r.laid (sym whole) le)
    ]

pub after_end : (t u : State) → TakesOperator EncodesAllowed operator.End t u → u.frames ≡ without_innermost t.frames
after_end t u k =
    go (sym k.frames ∙ frames_follow t.frames (role_of operator.End) (IsSome_of (frames_after t.frames (role_of operator.End)) u.frames k.frames))
  where
    go : Some u.frames ≡ Some (without_innermost t.frames) → u.frames ≡ without_innermost t.frames
    go e = cc e

end_text : (t u : State) (k : TakesOperator EncodesAllowed operator.End t u) → k.text ≡ 0x0b ∷ []
end_text t u k = end_byte t.reader.features k.text (sound t.reader.features k.kind k.text operator.End k.encodes)

pub begins_end : (t u : State) → TakesOperator EncodesAllowed operator.End t u → BeginsWith 0x0b (rest t.reader)
begins_end t u k = (rest u.reader, k.takes.parts ∙ ap (λ z. z ++ rest u.reader) (end_text t u k))

pub offset_after_end : (t u : State) → TakesOperator EncodesAllowed operator.End t u → offset_of u.reader ≡ offset_of t.reader + 1
offset_after_end t u k =
    let at : offset_of u.reader ≡ offset_of t.reader + length k.text = ap offset_of k.takes.moved ∙ omega arith in
    let one : length k.text ≡ 1 = ap length (end_text t u k) in
    omega (arith, at, one)

pub none_inside : (s t u : State) (placed : Placed) (more : List ℕ) → IsFresh s → TakesOperators s t placed → HasNoEnd (operators placed) →
    TakesOperator EncodesAllowed operator.End t u → (u.frames ≡ [] → ⊥) → NoPrefix (EncodesConstantReader s.reader.features) (rest s.reader ++ more)
none_inside s t u placed more fresh r no_end k stays text left x encodes eq =
    let f = s.reader.features in
    let o = offset_of s.reader in
    let ended = placed ++ (operator.End, offset_of t.reader) ∷ [] in
    let q = ran_push EncodesAllowed sound s t u placed operator.End r k in
    let once = passed_end placed operator.End (offset_of t.reader) no_end refl in
    let c = constant_at f text x o encodes in
    let whole = parts_of s u ended q more text left eq in
    let n : length ended ≡ length placed + 1 = length-append placed ((operator.End, offset_of t.reader) ∷ []) in
    elim (cases_lt (length ended) (length c.0)) [
      | inl lt ↦ (
          let g = laid_goes_on f o ended c.0 q.text text (rest u.reader ++ more) left q.laid c.1 whole lt in
          not_longer ended c.0 g.others g.next once c.3 g.parts
          )
      | inr le ↦
          elim (cases_lt (length c.0) (length ended)) [
            | inl lt ↦ not_beginning c.0 placed c.3 no_end (laid_beginning f o c.0 placed text r.text left (rest t.reader ++ more) c.1 r.laid
                (sym (parts_of s t placed r more text left eq)) (omega (arith, lt, n)))
            | inr ge ↦ (
                let same = laid_same f o ended c.0 q.text text (rest u.reader ++ more) left q.laid c.1 whole (omega (arith, le, ge)) in
                let along = from_block s u ended fresh q in
                let out = walk_runs_out (roles_of (operators c.0)) c.2.0 c.2.1 in
                let closed : Some u.frames ≡ Some [] = sym along ∙ ap (λ ps. frames_along (frame.Block ∷ []) (roles_of (operators ps))) same.0 ∙ out in
                stays (cc closed)
                )
          ]
    ]

pub inside_fault : (s t u : State) (placed : Placed) (offset : ℕ) → IsFresh s → TakesOperators s t placed → HasNoEnd (operators placed) →
    TakesOperator EncodesAllowed operator.End t u → (u.frames ≡ [] → ⊥) → offset ≡ offset_of u.reader → ConstantFault message.FramesRemainConst s.reader offset
inside_fault s t u placed offset fresh r no_end k stays at = (
  t.reader,
  t.frames,
  passes s t placed fresh r no_end,
  inr (begins_end t u k, λ none. stays (after_end t u k ∙ none), refl, at ∙ offset_after_end t u k),
)

pub within_data : (r : Reader) (byte : ℕ) (more : List ℕ) → rest r ≡ byte ∷ more → offset_of r < end_of r
within_data r byte more e =
    let n : length r.buffer - r.position ≡ length more + 1 = sym (length-drop r.position r.buffer) ∙ ap length e ∙ omega arith in
    omega (arith, n)

pub before : (old new : Reader) (text : List ℕ) → Takes old new text → (offset_of old ≤ offset_of new) × (end_of new ≡ end_of old)
before old new text t =
    let at : offset_of new ≡ offset_of old + length text = ap offset_of t.moved ∙ omega arith in
    (omega (arith, at), ap end_of t.moved)

pub ahead_after : (s t u : State) (placed : Placed) → TakesOperators s t placed → TakesOperator EncodesAllowed operator.End t u → IsAhead s.reader (offset_of u.reader)
ahead_after s t u placed r k =
    let b = begins_end t u k in
    let inside = within_data t.reader 0x0b b.0 b.1 in
    let from = before s.reader t.reader r.text r.takes in
    let at = offset_after_end t u k in
    (omega (arith, from.0, at), omega (arith, from.1, at, inside))
