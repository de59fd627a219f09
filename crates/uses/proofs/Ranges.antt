use Rattle.std.proofs.Common.{◌≡◌, ℕ, ◌+◌, ◌≤◌, List, [], ◌∷◌, ◌++◌, length, sym, ap, subst, ◌∙◌, arith, length-append}
use Rattle.std.proofs.lemmas.List.{nil_from_length}
use Rattle.wasm_operators.specs.below.declared.features.WasmFeatures.{WasmFeatures}
use Rattle.wasm_operators.specs.instr.declared.operator.Operator.{Operator}
use Rattle.wasm_operators.specs.Expression.{Placed, LaidOut, EndsAt}
use Rattle.uses.specs.Places.{IsRangeOf}
use Rattle.uses.proofs.Splits.{SplitsAt, SplitsInto}

abbrev pub EndsAtNext : WasmFeatures → Type 0
EndsAtNext f = (offset : ℕ) (before after : Placed) (p q : Operator × ℕ) (bytes : List ℕ) → LaidOut f offset bytes (before ++ p ∷ q ∷ after) → EndsAt f p q.1

abbrev pub EndsAtLast : WasmFeatures → Type 0
EndsAtLast f = (offset : ℕ) (before : Placed) (p : Operator × ℕ) (bytes : List ℕ) → LaidOut f offset bytes (before ++ p ∷ []) →
    EndsAt f p (offset + length bytes)

range_is : (f : WasmFeatures) (list before after : Placed) (p : Operator × ℕ) (index start end : ℕ) → list ≡ before ++ p ∷ after → length before ≡ index →
    start ≡ p.1 → EndsAt f p end → IsRangeOf f list index start end
range_is f list before after p index start end parts place start_is ends = record {
  before = before;
  op = p.0;
  after = after;
  parts = parts ∙ ap (λ at. before ++ (p.0, at) ∷ after) (sym start_is);
  place = place;
  ends = subst (λ at. EndsAt f (p.0, at) end) (sym start_is) ends;
}

pub range_last : (f : WasmFeatures) (list : Placed) (p : Operator × ℕ) (index start end offset : ℕ) (bytes : List ℕ) → EndsAtLast f → SplitsAt list index p →
    start ≡ p.1 → length list ≤ index + 1 → LaidOut f offset bytes list → end ≡ offset + length bytes → IsRangeOf f list index start end
range_last f list p index start end offset bytes law split start_is last laid end_is =
    let all = ap length split.parts in
    let none : split.after ≡ [] = nil_from_length split.after (omega (arith, all, length-append split.before (p ∷ split.after), split.place)) in
    let parts = split.parts ∙ ap (λ others. split.before ++ p ∷ others) none in
    let ends = law offset split.before p bytes (subst (λ l. LaidOut f offset bytes l) parts laid) in
    range_is f list split.before [] p index start end parts split.place start_is (subst (EndsAt f p) (sym end_is) ends)

pub range_next : (f : WasmFeatures) (list : Placed) (p q : Operator × ℕ) (index start end offset : ℕ) (bytes : List ℕ) → EndsAtNext f →
    SplitsInto list index p q → start ≡ p.1 → end ≡ q.1 → LaidOut f offset bytes list → IsRangeOf f list index start end
range_next f list p q index start end offset bytes law split start_is end_is laid =
    let ends = law offset split.before split.after p q bytes (subst (λ l. LaidOut f offset bytes l) split.parts laid) in
    range_is f list split.before (q ∷ split.after) p index start end split.parts split.place start_is (subst (EndsAt f p) (sym end_is) ends)
