-- What is found in two steps is found in one; and the same after the locals of a body.
use Rattle.std.proofs.Common.{◌≡◌, ℕ, ◌+◌, ◌≤◌, List, [], ◌++◌, length, length-append, length-drop, Result, Ok, Err, sym, ap, ◌∙◌, arith, ◌⊎◌, inl, inr}
use Rattle.wasm_operators.specs.below.declared.error.Error.{Error}
use Rattle.wasm_operators.specs.below.Source.{Reader, rest, offset_of, end_of}
use Rattle.wasm_operators.specs.Body.{OpensBody}
use Rattle.wasm_operators.specs.Expression.{Placed, OfPlaced}
use Rattle.wasm_operators.specs.Reading.{State, TakesOperators, EndsRun, RunsToEnd}
use Rattle.wasm_operators.specs.Next.{all_operators, collecting}
use Rattle.wasm_operators.specs.MainTheorem.{ReadSoFar}
use Rattle.wasm_operators.specs.Laws.{TakesBoth, IsNoLonger}
use Rattle.wasm_view.specs.declared.view.WasmOperator.{WasmOperator}
use Rattle.wasm_c.specs.Reads.{EndsBody, EndsOperators, IfMemory, MayAllocateAfter, BodyMayAllocate, FillsArray, FindsOperators}
use Rattle.wasm_c.proofs.Cited.{OfTree, OfBeginning, OfStops, OfMemory, OfLocals}
use Rattle.wasm_c.proofs.Written.{written_first}

-- The contract of a body does not say when allocation may fail.
ends_anywhere : {X : Type 0} → OfStops → (result : Result X Error) (s : State) → EndsRun all_operators result s → EndsRun collecting result s
ends_anywhere law (Ok x) s h = h
ends_anywhere law (Err e) s (inl left) = inl left
ends_anywhere law (Err e) s (inr (some, stops)) = inr (some, law e s stops)

ends_run : {X : Type 0} → OfTree → OfBeginning → (result : Result X Error) (opened new : State) (all : Placed) → ReadSoFar [] opened →
    TakesOperators opened new all → EndsRun collecting result new → EndsOperators result opened all
ends_run tree beginning (Ok x) opened new all read_so_far ran (closed, taken) = (tree [] opened new all read_so_far ran closed taken).encodes
ends_run tree beginning (Err e) opened new all read_so_far ran stops = (new, beginning [] e opened new all read_so_far ran stops)

asked_memory : {X : Type 0} → OfMemory → (result : Result X Error) (opened new : State) (all : Placed) → TakesOperators opened new all →
    EndsRun all_operators result new → IfMemory result (MayAllocateAfter opened all)
asked_memory asked (Ok x) opened new all ran ends = tt
asked_memory asked (Err e) opened new all ran stops = λ is. record { stopped = new; takes = ran; asks = asked e new stops is }

-- The operators found before, and those visited to the end after them.
pub ends_visited : {X : Type 0} (Effect : OfPlaced) → TakesBoth → OfTree → OfBeginning → OfStops → OfMemory → (result : Result X Error)
    (opened old new : State) (found : Placed) → ReadSoFar [] opened → TakesOperators opened old found →
    RunsToEnd all_operators Effect result old new →
    (more : Placed) × Effect more × TakesOperators old new more × EndsOperators result opened (found ++ more) ×
    IfMemory result (MayAllocateAfter opened (found ++ more))
ends_visited Effect joined tree beginning stops asked result opened old new found read_so_far ran (placed, effect, on, ends) = (
  placed,
  effect,
  on,
  ends_run tree beginning result opened new (found ++ placed) read_so_far (joined opened old new found placed ran on) (ends_anywhere stops result new ends),
  asked_memory asked result opened new (found ++ placed) (joined opened old new found placed ran on) ends,
)

-- A read that failed in the array.
pub found_stopped : {X : Type 0} → OfTree → OfBeginning → OfStops → OfMemory → (e : Error) (opened new : State) (count : ℕ) (old out : List WasmOperator)
    (found : Placed) → ReadSoFar [] opened → FillsArray {X = X} (Err e) opened new count old out found →
    FindsOperators {X = X} (Err e) opened count old out found
found_stopped {X} tree beginning stops asked e opened new count old out found read_so_far f = record {
  ends = ends_run {X = X} tree beginning (Err e) opened new found read_so_far f.takes (ends_anywhere {X = X} stops (Err e) new f.ends);
  memory = asked_memory {X = X} asked (Err e) opened new found f.takes f.ends;
  counted = f.counted;
  in_array = f.in_array ∙ sym (written_first found old f.fits);
}

-- After all data was read, no operator follows.
none_left : (old new : State) (more : Placed) → IsNoLonger old.reader.features → rest old.reader ≡ [] → TakesOperators old new more → length more ≡ 0
none_left old new more lengths none on =
    let few = lengths (offset_of old.reader) more on.text on.laid in
    let sum : length (rest old.reader) ≡ length on.text + length (rest new.reader) = ap length on.takes.parts ∙ length-append on.text (rest new.reader) in
    omega (arith, few, sum, ap length none)

pub full_or_none : (Full : Type 0) (old new : State) (more : Placed) → IsNoLonger old.reader.features → Full ⊎ (rest old.reader ≡ []) →
    TakesOperators old new more → Full ⊎ (length more ≡ 0)
full_or_none Full old new more lengths (inl full) on = inl full
full_or_none Full old new more lengths (inr none) on = inr (none_left old new more lengths none on)

-- The number of operators is at most that of the bytes.
pub ends_few : {X : Type 0} (result : Result X Error) (opened : State) (placed : Placed) → IsNoLonger opened.reader.features →
    EndsOperators result opened placed → length placed ≤ end_of opened.reader
ends_few (Ok x) opened placed lengths h =
    let few = lengths (offset_of opened.reader) placed (rest opened.reader) h.0 in
    omega (arith, few, length-drop opened.reader.position opened.reader.buffer)
ends_few (Err e) opened placed lengths h =
    let b = h.1 in
    let few = lengths (offset_of opened.reader) placed b.text b.laid in
    let sum : length (rest opened.reader) ≡ length b.text + length (rest h.0.reader) = ap length b.takes.parts ∙ length-append b.text (rest h.0.reader) in
    omega (arith, few, sum, length-drop opened.reader.position opened.reader.buffer)

-- The operators of a body whose locals were read.
pub ends_body : {X : Type 0} → OfLocals → (result : Result X Error) (body : Reader) (opened : State) (placed : Placed) → OpensBody (Ok opened) body →
    EndsOperators result opened placed → EndsBody result body placed
ends_body of_locals (Ok x) body opened placed ((declarations, past), fresh) h = (declarations, of_locals body opened.reader declarations placed past h)
ends_body of_locals (Err e) body opened placed opens h = inr (record { opened = opened; opens = opens; stopped = h.0; reads = h.1 })

-- When reading its operators may allocate.
pub memory_body : {X : Type 0} (result : Result X Error) (body : Reader) (opened : State) (placed : Placed) → OpensBody (Ok opened) body →
    IfMemory result (MayAllocateAfter opened placed) → IfMemory result (BodyMayAllocate body placed)
memory_body (Ok x) body opened placed opens h = tt
memory_body (Err e) body opened placed opens h = λ is. record { opened = opened; opens = opens; next = h is }
