-- Several calls that read to the end, seen as one call.
use Rattle.std.proofs.Common.{◌≡◌, ℕ, ◌+◌, List, [], ◌++◌, length, refl, sym, ap, subst, ◌∙◌, arith, append_assoc, length-append}
use Rattle.std.proofs.lemmas.List.{map-append}
use Rattle.wasm_operators.specs.below.Source.{Reader, rest, offset_of, source_of, at_position, Takes}
use Rattle.wasm_operators.specs.instr.declared.operator.Operator.{Operator}
use Rattle.wasm_operators.specs.Expression.{Placed, operators, LaidOut, AreWalk, EncodesRest, EncodesExpression}
use Rattle.wasm_operators.specs.Reading.{State}
use Rattle.wasm_operators.specs.MainTheorem.{ReadSoFar}
use Rattle.wasm_operators.specs.Laws.{LaysOutBoth}

-- From the reader `opened` to the state `now`, the bytes encode the operators `found`.
pub record HasFound (opened : Reader) (now : State) (found : Placed) : Type 0 where
  pub text : List ℕ
  pub takes : Takes opened now.reader text
  pub laid : LaidOut opened.features (offset_of opened) text found
  pub read_so_far : ReadSoFar (operators found) now

laid_after : (r old : Reader) (text : List ℕ) (placed : Placed) (more : List ℕ) → Takes r old text → LaidOut old.features (offset_of old) more placed →
    LaidOut r.features (offset_of r + length text) more placed
laid_after r old text placed more takes laid =
    let features : old.features ≡ r.features = ap (λ (s : Reader). s.features) takes.moved in
    let offset : offset_of old ≡ offset_of r + length text = ap offset_of takes.moved ∙ omega arith in
    subst (λ o. LaidOut r.features o more placed) offset (subst (λ f. LaidOut f (offset_of old) more placed) features laid)

takes_both : (r old new : Reader) (a b : List ℕ) → Takes r old a → Takes old new b → Takes r new (a ++ b)
takes_both r old new a b first second =
    let sum = length-append a b in
    let place : old.position + length b ≡ r.position + length (a ++ b) = ap (λ (s : Reader). s.position + length b) first.moved ∙ omega (arith, sum) in
    record {
      moved = second.moved ∙ ap (λ (s : Reader). at_position s (old.position + length b)) first.moved ∙ ap (at_position r) place;
      parts = first.parts ∙ ap (λ t. a ++ t) second.parts ∙ sym (append_assoc a b (rest new));
    }

pub found_none : (r : Reader) (now : State) → now.reader ≡ r → ReadSoFar [] now → HasFound r now []
found_none r now same read_so_far =
    let place : r.position ≡ r.position + 0 = omega arith in
    record {
      text = [];
      takes = record { moved = same ∙ ap (at_position r) place; parts = ap rest (sym same) };
      laid = refl;
      read_so_far = read_so_far;
    }

pub found_more : (r : Reader) (old new : State) (found placed : Placed) (text : List ℕ) → LaysOutBoth r.features → HasFound r old found →
    Takes old.reader new.reader text → LaidOut old.reader.features (offset_of old.reader) text placed →
    ReadSoFar (operators found ++ operators placed) new → HasFound r new (found ++ placed)
found_more r old new found placed text joined h takes laid read_so_far = record {
  text = h.text ++ text;
  takes = takes_both r old.reader new.reader h.text text h.takes takes;
  laid = joined (offset_of r) found placed h.text text h.laid (laid_after r old.reader h.text placed text h.takes laid);
  read_so_far = subst (λ ops. ReadSoFar ops new) (sym (map-append (λ (p : Operator × ℕ). p.0) found placed)) read_so_far;
}

pub whole_after : (r : Reader) (old : State) (found placed : Placed) → LaysOutBoth r.features → HasFound r old found →
    EncodesRest (operators found) (source_of old.reader) placed → EncodesExpression (source_of r) (found ++ placed)
whole_after r old found placed joined h (laid, walk) =
    let all = joined (offset_of r) found placed h.text (rest old.reader) h.laid (laid_after r old.reader h.text placed (rest old.reader) h.takes laid) in (
      subst (λ bytes. LaidOut r.features (offset_of r) bytes (found ++ placed)) (sym h.takes.parts) all,
      subst AreWalk (sym (map-append (λ (p : Operator × ℕ). p.0) found placed)) walk,
    )
