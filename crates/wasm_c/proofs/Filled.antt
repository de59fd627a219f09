-- An array that starts with the C structs of the operators that were read.
use Rattle.std.proofs.Common.{◌≡◌, ℕ, ◌+◌, ◌<◌, ◌≤◌, List, [], ◌∷◌, ◌++◌, length, drop, set, Result, refl, sym, subst, arith, length-append}
use Rattle.wasm_operators.specs.below.declared.error.Error.{Error}
use Rattle.wasm_operators.specs.below.Source.{offset_of}
use Rattle.wasm_operators.specs.instr.declared.operator.Operator.{Operator}
use Rattle.wasm_operators.specs.opcodes.Allowed.{EncodesAllowed}
use Rattle.wasm_operators.specs.Expression.{Placed}
use Rattle.wasm_operators.specs.Reading.{State, IsUnchanged, TakesOperator, TakesOperators}
use Rattle.wasm_operators.specs.Laws.{TakesOneMore, TakesNoMore}
use Rattle.wasm_view.specs.View.{view_of, views}
use Rattle.wasm_view.specs.declared.view.WasmOperator.{WasmOperator}
use Rattle.wasm_c.specs.Reads.{EndsFilling, FillsArray}
use Rattle.wasm_c.proofs.Written.{one_more}

-- The operators read since the reader was opened are at the start of the array, and its other elements are unchanged.
abbrev pub Filled : State → State → ℕ → List WasmOperator → List WasmOperator → Type 0
Filled opened now count old out = (found : Placed) × TakesOperators opened now found × (count ≡ length found) × (length found ≤ length old) ×
    (out ≡ views found ++ drop (length found) old)

pub filled_first : (opened : State) (old : List WasmOperator) → TakesOperators opened opened [] → Filled opened opened 0 old old
filled_first opened old none = ([], none, refl, omega arith, refl)

pub filled_on : (opened now next : State) (old out : List WasmOperator) (count offset : ℕ) (op : Operator) (v : WasmOperator) → TakesOneMore →
    Filled opened now count old out → TakesOperator EncodesAllowed op now next → offset ≡ offset_of now.reader → count < length out →
    length out ≡ length old → v ≡ view_of (op, offset) → Filled opened next (count + 1) old (set out count v)
filled_on opened now next old out count offset op v law (found, ran, counted, fits, is) takes at within same_length same =
    let p : Operator × ℕ = (op, offset) in
    let room : length found < length old = omega (arith, within, same_length, counted) in
    let n = length-append found (p ∷ []) in (
      found ++ p ∷ [],
      subst (λ o. TakesOperators opened next (found ++ (op, o) ∷ [])) (sym at) (law opened now next found op ran takes),
      omega (arith, counted, n),
      omega (arith, room, n),
      one_more found p old out count v is counted room same,
    )

pub filled_still : (opened now next : State) (old out : List WasmOperator) (count : ℕ) → TakesNoMore → Filled opened now count old out → IsUnchanged now next →
    Filled opened next count old out
filled_still opened now next old out count law (found, ran, counted, fits, is) same = (found, law opened now next found ran same, counted, fits, is)

pub filled_to : {X : Type 0} (result : Result X Error) (opened now : State) (old out : List WasmOperator) (count : ℕ) (f : Filled opened now count old out) →
    EndsFilling result now (length f.0 ≡ length old) → (found : Placed) × FillsArray result opened now count old out found
filled_to result opened now old out count f ends = (f.0, record { takes = f.1; counted = f.2; fits = f.3; in_array = f.4; ends = ends })
