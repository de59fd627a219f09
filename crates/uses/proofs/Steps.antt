use Rattle.std.proofs.Common.{◌≡◌, ◌↔◌, ℕ, ◌+◌, List, [], ◌∷◌, ◌++◌, length, false, Some, inl, inr, IsSome, refl, sym, ap, subst, ◌∙◌, arith, append_assoc, append-nil, length-append}
use Rattle.std.proofs.lemmas.Bool.{false≢true}
use Rattle.std.proofs.lemmas.List.{map-append}
use Rattle.wasm_operators.specs.below.Source.{Reader, rest, offset_of, source_of, at_position, Takes}
use Rattle.wasm_operators.specs.grammar.declared.frame_kind.FrameKind.TheVariants as frame
use Rattle.wasm_operators.specs.grammar.Beginning.{BeginsWalk}
use Rattle.wasm_operators.specs.grammar.Frames.{frames_along}
use Rattle.wasm_operators.specs.grammar.Role.{Role}
use Rattle.wasm_operators.specs.instr.declared.operator.Operator.{Operator}
use Rattle.wasm_operators.specs.instr.Roles.{roles_of}
use Rattle.wasm_operators.specs.opcodes.Allowed.{EncodesAllowed}
use Rattle.wasm_operators.specs.Expression.{Placed, operators, LaidOut}
use Rattle.wasm_operators.specs.MainTheorem.{ReadSoFar}
use Rattle.wasm_operators.specs.Laws.{LaysOutBoth}
use Rattle.wasm_operators.specs.Iterating.{Iterating, HasEnded, iterating_over}
use Rattle.wasm_operators.specs.Reading.{State, TakesOperator}
use Rattle.uses.specs.Iterated.{AreAllAllowed}

abbrev pub ReadsOneMore : Type 0
ReadsOneMore = (before : List Operator) (op : Operator) (old new : State) → TakesOperator EncodesAllowed op old new → ReadSoFar before old →
    ReadSoFar (before ++ op ∷ []) new

-- These operators were returned since the reader was opened, and are before the iterator's
-- position.
pub record HasGiven (r : Reader) (items : Iterating) (found : Placed) : Type 0 where
  pub text : List ℕ
  pub takes : Takes r items.reader.reader text
  pub laid : LaidOut r.features (offset_of r) text found
  pub read_so_far : ReadSoFar (operators found) items.reader
  pub goes_on : items.refused ≡ false

pub gives_none : (r : Reader) (s : State) → s.reader ≡ r → ReadSoFar [] s → HasGiven r (iterating_over s) []
gives_none r s same read_so_far =
    let place : r.position ≡ r.position + 0 = omega arith in
    record {
      text = [];
      takes = record { moved = same ∙ ap (at_position r) place; parts = ap rest (sym same) };
      laid = refl;
      read_so_far = read_so_far;
      goes_on = refl;
    }

pub gives_one : (r : Reader) (old new : Iterating) (found : Placed) (op : Operator) (at : ℕ) → LaysOutBoth r.features → ReadsOneMore → HasGiven r old found →
    TakesOperator EncodesAllowed op old.reader new.reader → at ≡ offset_of old.reader.reader → new.refused ≡ false →
    HasGiven r new (found ++ (op, at) ∷ [])
gives_one r old new found op at joined occurs h taken is goes_on =
    let mid = old.reader.reader in
    let text = h.text ++ taken.text in
    let sum = length-append h.text taken.text in
    let features : mid.features ≡ r.features = ap (λ (s : Reader). s.features) h.takes.moved in
    let offset : offset_of mid ≡ offset_of r + length h.text = ap offset_of h.takes.moved ∙ omega arith in
    let encodes = subst (λ f. EncodesAllowed f taken.kind taken.text op) features taken.encodes in
    let one : LaidOut r.features (offset_of r + length h.text) taken.text ((op, at) ∷ []) =
    (is ∙ offset, taken.text, [], sym (append-nil taken.text), encodes.0, refl) in
    let place : mid.position + length taken.text ≡ r.position + length text =
    ap (λ (s : Reader). s.position + length taken.text) h.takes.moved ∙ omega (arith, sum) in
    record {
      text = text;
      takes = record {
        moved = taken.takes.moved ∙ ap (λ (s : Reader). at_position s (mid.position + length taken.text)) h.takes.moved ∙ ap (at_position r) place;
        parts = h.takes.parts ∙ ap (λ t. h.text ++ t) taken.takes.parts ∙ sym (append_assoc h.text taken.text (rest new.reader.reader));
      };
      laid = joined (offset_of r) found ((op, at) ∷ []) h.text taken.text h.laid one;
      read_so_far = subst (λ ops. ReadSoFar ops new.reader) (sym (map-append (λ (p : Operator × ℕ). p.0) found ((op, at) ∷ []))) (occurs (operators found) op old.reader new.reader taken h.read_so_far);
      goes_on = goes_on;
    }

-- What the law `rules_run_beginnings` states of operators.
abbrev pub RunsBeginnings : Type 0
RunsBeginnings = (roles : List (Role Operator)) → IsSome (frames_along (frame.Block ∷ []) roles) ↔ BeginsWalk roles

pub gives_all : (r : Reader) (items : Iterating) (found : Placed) → RunsBeginnings → HasGiven r items found → HasEnded items →
    frames_along (frame.Block ∷ []) (roles_of (operators found)) ≡ Some items.reader.frames → AreAllAllowed (source_of r) found
gives_all r items found begins h (inl refused) along = absurd (false≢true (sym h.goes_on ∙ refused))
gives_all r items found begins h (inr nothing) along =
    let some : IsSome (frames_along (frame.Block ∷ []) (roles_of (operators found))) = subst IsSome (sym along) refl in
    let all : rest r ≡ h.text = h.takes.parts ∙ ap (λ t. h.text ++ t) nothing ∙ append-nil h.text in
    record {
      laid = subst (λ bytes. LaidOut r.features (offset_of r) bytes found) (sym all) h.laid;
      allowed = some;
      begins = (begins (roles_of (operators found))).0 some;
    }
