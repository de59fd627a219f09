-- Specification: Binary Format, Modules, Code Section.
use Rattle.std.specs.Prelude.{◌≡◌, ◌≢◌, ℕ, ◌+◌, List, [], ◌++◌, length, Result, Ok, Err, ◌⊎◌}
use Rattle.wasm_below.specs.declared.error.Error.{Error}
use Rattle.wasm_below.specs.declared.message.Message.TheVariants as message
use Rattle.wasm_below.specs.Source.{Source, Reader, source_of}
use Rattle.wasm_operators.specs.Expression.{Placed, OfPlaced, EncodesExpression}
use Rattle.wasm_operators.specs.Reading.{State, IsFresh}
use Rattle.wasm_operators.specs.MainTheorem.{ReadsBeginning}
use Rattle.wasm_operators.specs.Next.{collecting}
use Rattle.wasm_operators.specs.Locals.{Declaration, EncodesLocals, RefusesLocals, ReadsPastLocals}

-- The bytes of a source after the prefix `text`, as a source.
abbrev pub source_after : Source → List ℕ → List ℕ → Source
source_after s text more = record { features = s.features; offset = s.offset + length text; bytes = more }

-- The bytes encode declarations of locals, and an expression with these operators.
--   func ::= loc**:list(locals) e:expr ⇒ concat(loc**) e
pub record EncodesBody (s : Source) (declarations : List Declaration) (placed : Placed) : Type 0 where
  pub locals : List ℕ
  pub expression : List ℕ
  pub parts : s.bytes ≡ locals ++ expression
  pub encodes_locals : EncodesLocals locals declarations
  pub encodes_expression : EncodesExpression (source_after s locals expression) placed

-- A new reader of operators is after the locals, or these are in error.
abbrev pub OpensBody : Result State Error → Reader → Type 0
OpensBody (Ok s) body = ReadsPastLocals (Ok s.reader) body × IsFresh s
OpensBody (Err e) body = RefusesLocals e body

-- The locals are in error, and no operator was read.
pub record NoLocals (e : Error) (body : Reader) (placed : Placed) : Type 0 where
  pub refused : RefusesLocals e body
  pub nothing : placed ≡ []

-- Reading these operators after the locals stops at this error, as `ReadsBeginning` says.
pub record NoExpression (e : Error) (body : Reader) (placed : Placed) : Type 0 where
  pub opened : State
  pub opens : OpensBody (Ok opened) body
  pub stopped : State
  pub reads : ReadsBeginning collecting [] e opened stopped placed

-- Except after `OutOfMemory`: the bytes encode no body; these operators are the longest prefix of
-- an expression, or none if the locals are in error.
abbrev pub StopsBody : Error → Reader → Placed → Type 0
StopsBody e body placed = NoLocals e body placed ⊎ NoExpression e body placed

-- On `Ok` the bytes encode a body; on an error other than `OutOfMemory`, `StopsBody` holds.
-- `Effect` holds for the operators.
abbrev pub ReadsBody : {X : Type 0} → OfPlaced → Result X Error → Reader → Type 0
ReadsBody Effect (Ok x) body = (declarations : List Declaration) × (placed : Placed) × Effect placed × EncodesBody (source_of body) declarations placed
ReadsBody Effect (Err e) body = e.message ≢ message.OutOfMemory → (placed : Placed) × Effect placed × StopsBody e body placed
