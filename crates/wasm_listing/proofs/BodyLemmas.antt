use Rattle.std.proofs.Common.{◌≡◌, List, [], Result, Ok, Err, IfErr}
use Rattle.wasm_operators.specs.below.declared.error.Error.{Error}
use Rattle.wasm_operators.specs.below.declared.message.Message.TheVariants as message
use Rattle.wasm_operators.specs.below.Source.{Reader, source_of}
use Rattle.wasm_operators.specs.opcodes.Allowed.{EncodesAllowed}
use Rattle.wasm_operators.specs.Expression.{Placed, OfPlaced}
use Rattle.wasm_operators.specs.MainTheorem.{ReadsTree, ReadsBeginning, ReadsRestAfter}
use Rattle.wasm_operators.specs.Next.{NextMayAllocate, all_operators}
use Rattle.wasm_operators.specs.Reading.{State, StopsRun, RunsToEnd, Decoder}
use Rattle.wasm_operators.specs.Body.{EncodesBody, OpensBody, StopsBody, ReadsBody}
use Rattle.wasm_operators.specs.Locals.{Declaration}
use Rattle.wasm_listing.specs.Census.{BodyMayAllocate}

-- The law `opened_bodies` for a body that was read to its end.
abbrev pub IsWhole : Type 0
IsWhole = (body : Reader) (opened new : State) (placed : Placed) → OpensBody (Ok opened) body → ReadsTree [] opened new placed →
    (declarations : List Declaration) × EncodesBody (source_of body) declarations placed

-- The same for a body with an error.
abbrev pub IsStopped : Decoder → Type 0
IsStopped decoder = (e : Error) (body : Reader) (opened new : State) (placed : Placed) → OpensBody (Ok opened) body →
    ReadsBeginning decoder [] e opened new placed → StopsBody e body placed

pub refused_body : (X : Type 0) (Effect : OfPlaced) (e : Error) (body : Reader) → Effect [] → StopsBody e body [] → ReadsBody {X = X} Effect (Err e) body
refused_body X Effect e body none stops = λ other. ([], none, stops)

pub opened_body : {X : Type 0} (decoder : Decoder) (Effect : OfPlaced) (r : Result X Error) (body : Reader) (opened new : State) → IsWhole →
    IsStopped decoder → OpensBody (Ok opened) body → ReadsRestAfter [] decoder Effect r opened new →
    ReadsBody Effect r body
opened_body decoder Effect (Ok x) body opened new whole stopped opens h =
    let all = whole body opened new h.tree.0 opens h.tree.2 in
    (all.0, h.tree.0, h.tree.1, all.1)
opened_body decoder Effect (Err e) body opened new whole stopped opens h =
    λ other. (h.beginning.0, h.beginning.1, stopped e body opened new h.beginning.0 opens h.beginning.2)

pub opened_memory : {X : Type 0} (Effect : OfPlaced) (r : Result X Error) (body : Reader) (opened new : State) →
    ((e : Error) (s : State) → StopsRun all_operators e s → e.message ≡ message.OutOfMemory → NextMayAllocate EncodesAllowed s) → OpensBody (Ok opened) body →
    RunsToEnd all_operators Effect r opened new →
    IfErr r (λ e. e.message ≡ message.OutOfMemory → BodyMayAllocate body)
opened_memory Effect (Ok x) body opened new asked opens runs = tt
opened_memory Effect (Err e) body opened new asked opens (placed, effect, takes, stops) = λ is.
    record { opened = opened; opens = opens; stopped = new; placed = placed; takes = takes; asks = asked e new stops is }
