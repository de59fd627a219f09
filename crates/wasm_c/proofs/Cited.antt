-- The statements of the laws that proofs here get as arguments.
use Rattle.std.proofs.Common.{◌≡◌, List, []}
use Rattle.wasm_operators.specs.below.declared.error.Error.{Error}
use Rattle.wasm_operators.specs.below.declared.message.Message.TheVariants as message
use Rattle.wasm_operators.specs.below.Source.{rest, Reader, source_of}
use Rattle.wasm_operators.specs.instr.declared.operator.Operator.{Operator}
use Rattle.wasm_operators.specs.opcodes.Allowed.{EncodesAllowed}
use Rattle.wasm_operators.specs.Expression.{Placed, EncodesExpression}
use Rattle.wasm_operators.specs.MainTheorem.{ReadSoFar, ReadsTree, ReadsBeginning}
use Rattle.wasm_operators.specs.Next.{NextMayAllocate, all_operators, collecting}
use Rattle.wasm_operators.specs.Reading.{State, IsFresh, TakesOperators, StopsRead, StopsRun}
use Rattle.wasm_operators.specs.Body.{EncodesBody}
use Rattle.wasm_operators.specs.Locals.{Declaration, IsPastLocals}

-- `fresh_readers`
abbrev pub Fresh : Type 0
Fresh = (s : State) → IsFresh s → ReadSoFar [] s

-- `read_to_the_end`
abbrev pub OfTree : Type 0
OfTree = (before : List Operator) (old new : State) (placed : Placed) → ReadSoFar before old → TakesOperators old new placed → new.frames ≡ [] →
    rest new.reader ≡ [] → ReadsTree before old new placed

abbrev pub OfBeginning : Type 0
OfBeginning = (before : List Operator) (e : Error) (old new : State) (placed : Placed) → ReadSoFar before old → TakesOperators old new placed →
    StopsRun collecting e new → ReadsBeginning collecting before e old new placed

abbrev pub OfStops : Type 0
OfStops = (e : Error) (s : State) → StopsRead all_operators e s → StopsRead collecting e s

-- `past_locals`
abbrev pub OfLocals : Type 0
OfLocals = (body r : Reader) (declarations : List Declaration) (placed : Placed) → IsPastLocals declarations body r →
    EncodesExpression (source_of r) placed → EncodesBody (source_of body) declarations placed

-- `memory_asked`
abbrev pub OfMemory : Type 0
OfMemory = (e : Error) (s : State) → StopsRun all_operators e s → e.message ≡ message.OutOfMemory → NextMayAllocate EncodesAllowed s
