-- Reads with capacity for all frames and operators.
use Rattle.std.proofs.Common.{◌≡◌, ℕ, ◌+◌, ◌*◌, ◌<◌, ◌≤◌, List, [], ◌∷◌, length, Result, Ok, Err, IfErr, ◌⊎◌, refl, sym, ap, ◌∙◌, arith, inl, inr, length-append}
use Rattle.wasm_operators.specs.below.declared.error.Error.{Error}
use Rattle.wasm_operators.specs.below.declared.message.Message.TheVariants as message
use Rattle.wasm_operators.specs.below.Source.{Reader, rest}
use Rattle.wasm_operators.specs.opcodes.Allowed.{EncodesAllowed}
use Rattle.wasm_operators.specs.Expression.{Placed}
use Rattle.wasm_operators.specs.Laws.{IsNoLonger}
use Rattle.wasm_operators.specs.MainTheorem.{IsWithinDepth}
use Rattle.wasm_operators.specs.Next.{ListMayAllocate, NextMayAllocate, collecting}
use Rattle.wasm_operators.specs.Reading.{State, Adds, RunsToEnd, StopsRun, TakesOperators}
use Rattle.wasm_operators.specs.Stack.{frame_memory}

some_left : (bytes : List ℕ) → (bytes ≡ [] → ⊥) → 0 < length bytes
some_left [] none = absurd (none refl)
some_left (byte ∷ bytes) none = omega arith

data_left : (e : Error) (s : State) → StopsRun collecting e s → e.message ≡ message.OutOfMemory → 0 < length (rest s.reader)
data_left e s (inl (all, open_frame, left, at)) is = absurd (cc (sym left ∙ is))
data_left e s (inr (some, why)) is = some_left (rest s.reader) some

-- The capacity for frames is not used up before the last byte.
frames_fit : (old new : State) (placed : Placed) → length (rest old.reader) ≤ 2 * old.room → TakesOperators old new placed → IsWithinDepth old new →
    0 < length (rest new.reader) → new.room ≡ 0 → ⊥
frames_fit old new placed frames taken depth some none =
    let moved : new.reader.position ≡ old.reader.position + length taken.text = ap (λ (r : Reader). r.position) taken.takes.moved in
    let parts : length (rest old.reader) ≡ length taken.text + length (rest new.reader) = ap length taken.takes.parts ∙ length-append taken.text (rest new.reader) in
    let kept = taken.kept in
    omega (arith, frames, depth, some, none, moved, parts, kept)

-- Nor is the capacity of the list.
list_fits : (old new : State) (placed items more : Placed) (capacity grown : ℕ) → IsNoLonger old.reader.features →
    length items + length (rest old.reader) ≤ capacity → capacity ≤ grown → Adds items more placed → TakesOperators old new placed →
    0 < length (rest new.reader) → grown < length more + 1 → ⊥
list_fits old new placed items more capacity grown shorter fits kept added taken some full =
    let parts : length (rest old.reader) ≡ length taken.text + length (rest new.reader) = ap length taken.takes.parts ∙ length-append taken.text (rest new.reader) in
    let few = shorter _ placed taken.text taken.laid in
    let sum : length more ≡ length items + length placed = ap length added ∙ length-append items placed in
    omega (arith, fits, kept, some, full, parts, few, sum)

left_over : {A B C : Type 0} → (A ⊎ B) ⊎ C → (A → ⊥) → (C → ⊥) → B
left_over (inl (inl a)) none other = absurd (none a)
left_over (inl (inr b)) none other = b
left_over (inr c) none other = absurd (other c)

pub only_lists : {X : Type 0} (result : Result X Error) (old new : State) (items more : Placed) (capacity grown : ℕ) → IsNoLonger old.reader.features →
    length (rest old.reader) ≤ 2 * old.room → length items + length (rest old.reader) ≤ capacity → capacity ≤ grown →
    RunsToEnd collecting (Adds items more) result old new → IsWithinDepth old new →
    IfErr result (λ e. e.message ≡ message.OutOfMemory → NextMayAllocate EncodesAllowed new ⊎ (grown < length more + 1)) →
    IfErr result (λ e. e.message ≡ message.OutOfMemory → ListMayAllocate EncodesAllowed new)
only_lists (Ok x) old new items more capacity grown shorter frames fits kept runs depth memory = tt
only_lists (Err e) old new items more capacity grown shorter frames fits kept (placed, added, taken, stops) depth memory = λ is.
    let some = data_left e new stops is in
    left_over (memory is) (λ frame. frames_fit old new placed frames taken depth some frame.5)
    (λ full. list_fits old new placed items more capacity grown shorter fits kept added taken some full)

-- With this capacity, no other memory is allocated for frames.
pub same_memory : (old new : State) (placed : Placed) → TakesOperators old new placed →
    2 * length old.frames + length (rest old.reader) + 10 ≤ frame_memory old.frames old.room → frame_memory new.frames new.room ≡ frame_memory old.frames old.room
same_memory old new placed taken much =
    let parts : length (rest old.reader) ≡ length taken.text + length (rest new.reader) = ap length taken.takes.parts ∙ length-append taken.text (rest new.reader) in
    let kept = taken.kept in
    let memory = taken.memory in
    omega (arith, much, parts, kept, memory)
