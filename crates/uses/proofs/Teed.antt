-- Operators from a position on, and operators that were added to a list.
use Rattle.std.proofs.Common.{◌≡◌, ℕ, suc, ◌+◌, ◌-◌, ◌<◌, List, [], ◌∷◌, ◌++◌, length, get_or, drop, sym, ap, subst, ◌∙◌, append_assoc, arith}
use Rattle.std.proofs.lemmas.List.{length-drop, length-map}
use Rattle.std.proofs.Math.Seq.{drop-cons}
use Rattle.std.specs.Prelude.{Result, Ok, Err}
use Rattle.wasm_operators.specs.below.declared.features.WasmFeatures.{WasmFeatures}
use Rattle.wasm_operators.specs.instr.declared.operator.Operator.{Operator}
use Rattle.wasm_operators.specs.instr.declared.operator.Operator.TheVariants as operator
use Rattle.wasm_operators.specs.Expression.{Placed, operators}
use Rattle.wasm_encode.specs.immediate_specs.declared.unwritable.Unwritable.{Unwritable}
use Rattle.wasm_encode.specs.Writing.{WritesOperators}
use Rattle.uses.specs.Peephole.{AreTeed, kept, joined, AreSetAndGet, StartWithPair, WritesTeed}

pub first_of_rest : (ops : Placed) (at : ℕ) (p : Operator × ℕ) → at < length ops → p ≡ get_or ops at p → operators (drop at ops) ≡ p.0 ∷ operators (drop (at + 1) ops)
first_of_rest ops at p lt is =
    let next : suc at ≡ at + 1 = omega arith in
    ap operators (drop-cons ops at p lt) ∙ ap (λ z. z.0 ∷ operators (drop (suc at) ops)) (sym is) ∙ ap (λ k. p.0 ∷ operators (drop k ops)) next

-- A pair has two operators.
pub too_short : (ops : Placed) (at : ℕ) → length ops - at < 2 → StartWithPair (operators (drop at ops)) → ⊥
too_short ops at lt (x, rest, e) =
    let l = ap length e in
    let m = length-map (drop at ops) (λ p. p.0) in
    let d = length-drop at ops in
    omega (arith, lt, l, m, d)

added : (ops old new rest : List Operator) (op : Operator) → new ≡ old ++ (op ∷ []) → AreTeed ops (old ++ (op ∷ rest)) → AreTeed ops (new ++ rest)
added ops old new rest op e a = subst (λ z. AreTeed ops z) (sym (ap (λ z. z ++ rest) e ∙ append_assoc old (op ∷ []) rest)) a

-- The invariant of `with_tees`, from operators that are left.
abbrev pub AreTeedFrom : List Operator → List Operator → List Operator → Type 0
AreTeedFrom ops teed left = (rest : List Operator) → AreTeed left rest → AreTeed ops (teed ++ rest)

pub kept_next : (ops teed new : List Operator) (placed : Placed) (at : ℕ) (p : Operator × ℕ) → at < length placed → p ≡ get_or placed at p → new ≡ teed ++ (p.0 ∷ []) →
    (StartWithPair (operators (drop at placed)) → ⊥) → AreTeedFrom ops teed (operators (drop at placed)) → AreTeedFrom ops new (operators (drop (at + 1) placed))
kept_next ops teed new placed at p lt is n alone from rest a =
    let left = operators (drop (at + 1) placed) in
    let e = first_of_rest placed at p lt is in
    let one = kept p.0 left rest (λ pair. alone (subst StartWithPair (sym e) pair)) a in
    added ops teed new rest p.0 n (from (p.0 ∷ rest) (subst (λ z. AreTeed z (p.0 ∷ rest)) (sym e) one))

pub joined_next : (ops teed new left more : List Operator) (x : ℕ) → AreSetAndGet x left more → new ≡ teed ++ (operator.LocalTee x ∷ []) → AreTeedFrom ops teed left →
    AreTeedFrom ops new more
joined_next ops teed new left more x e n from rest a =
    added ops teed new rest (operator.LocalTee x) n (from (operator.LocalTee x ∷ rest) (subst (λ z. AreTeed z (operator.LocalTee x ∷ rest)) (sym e) (joined x more rest a)))

pub teed_written : {Y : Type 0} (f : WasmFeatures) (ops teed : List Operator) (r : Result Y Unwritable) (old new : List ℕ) → AreTeed ops teed → WritesOperators f teed r old new →
    WritesTeed f ops r old new
teed_written f ops teed (Ok y) old new a w = (teed, a, w)
teed_written f ops teed (Err e) old new a w = (w.0, λ some. (teed, a, w.1 some))
