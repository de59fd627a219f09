-- Expressions that are typed, as operators and as bytes.
-- WebAssembly Core Specification 3.0: Validation, Expressions.
use Rattle.std.specs.Prelude.{◌≡◌, ◌≢◌, ℕ, ◌+◌, Bool, List, [], ◌++◌, length, Result, IfOk}
use Rattle.wasm_below.specs.declared.error.Error.{Error}
use Rattle.wasm_below.specs.declared.features.WasmFeatures.{WasmFeatures}
use Rattle.wasm_below.specs.declared.message.Message.TheVariants as message
use Rattle.wasm_below.specs.Source.{Source, Reader, source_of}
use Rattle.wasm_grammar.specs.Tree.{Expression, walk}
use Rattle.wasm_grammar.specs.Beginning.{IsOnlyTree}
use Rattle.wasm_instr.specs.declared.operator.Operator.{Operator}
use Rattle.wasm_instr.specs.Encoding.{EncodesOperator}
use Rattle.wasm_instr.specs.Roles.{role_of, roles_of}
use Rattle.wasm_operators.specs.Expression.{Placed, operators, LaidOut, EncodesExpression}
use Rattle.wasm_operators.specs.Reading.{State}
use Rattle.wasm_operators.specs.Next.{collecting}
use Rattle.wasm_operators.specs.MainTheorem.{ReadsBeginning, with_after}
use Rattle.wasm_typing.specs.Types.{Stack}
use Rattle.wasm_typing.specs.Rules.{Rules}
use Rattle.wasm_typing.specs.Typing.{ExpressionTyped}
use Rattle.wasm_typing.specs.Steps.{Frame, step}
use Rattle.wasm_check_control.specs.State.{Answers, outermost}
use Rattle.wasm_check.specs.declared.error.CheckError.{CheckError}
use Rattle.wasm_check.specs.declared.error.CheckError.TheVariants as check

-- The bytes at offset 0.
abbrev pub input : WasmFeatures → List ℕ → Source
input features bytes = record { features = features; offset = 0; bytes = bytes }

-- The operators are the walk of a tree that the rules type.
abbrev pub AreTyped : Rules Operator → Stack → List Operator → Type 0
AreTyped R results ops = (tree : Expression Operator) × (roles_of ops ≡ walk tree) × ExpressionTyped (outermost R) tree results

-- All of the bytes encode these operators, and they are typed.
abbrev pub EncodesTyped : Rules Operator → Stack → Source → Placed → Type 0
EncodesTyped R results s placed = EncodesExpression s placed × AreTyped R results (operators placed)

-- With some bytes after them, these bytes encode a typed expression.
abbrev pub CanBeTyped : Rules Operator → Stack → Source → Type 0
CanBeTyped R results s = (more : List ℕ) × (whole : Placed) × EncodesTyped R results (with_after s more) whole

-- A source with these bytes.
abbrev pub with_bytes : Source → List ℕ → Source
with_bytes s bytes = record { features = s.features; offset = s.offset; bytes = bytes }

-- The bytes encode an expression, and the rules type its one tree.
pub record IsTypedExpression (R : Rules Operator) (results : Stack) (s : Source) : Type 0 where
  pub placed : Placed
  pub tree : Expression Operator
  pub encodes : EncodesExpression s placed
  pub only : IsOnlyTree (roles_of (operators placed)) tree
  pub typed : ExpressionTyped (outermost R) tree results

-- An operator is at this offset. The bytes before it begin a typed expression; the bytes up to its
-- end begin none.
pub record IsUntypedAt (R : Rules Operator) (results : Stack) (s : Source) (offset : ℕ) : Type 0 where
  pub before : Placed
  pub op : Operator
  pub beginning : List ℕ
  pub text : List ℕ
  pub more : List ℕ
  pub parts : s.bytes ≡ beginning ++ (text ++ more)
  pub laid : LaidOut s.features s.offset beginning before
  pub at : offset ≡ s.offset + length beginning
  pub encodes : EncodesOperator s.features text op
  pub begun : CanBeTyped R results (with_bytes s beginning)
  pub none : CanBeTyped R results (with_bytes s (beginning ++ text)) → ⊥

-- The reader fails after these operators, whose bytes begin a typed expression.
pub record IsUndecoded (R : Rules Operator) (results : Stack) (r : Reader) (e : Error) : Type 0 where
  pub old : State
  pub new : State
  pub from : old.reader ≡ r
  pub placed : Placed
  pub reads : ReadsBeginning collecting [] e old new placed
  pub begun : CanBeTyped R results (with_bytes (source_of r) reads.text)

-- What an error says of the input.
abbrev pub Explains : Rules Operator → Stack → Reader → CheckError → Type 0
Explains R results r (check.Untyped offset mismatch) = IsUntypedAt R results (source_of r) offset
Explains R results r (check.InvalidLocal offset ty) = ⊥
Explains R results r (check.TooManyLocals offset) = ⊥
Explains R results r (check.NotConstant offset) = ⊥
Explains R results r (check.Decode e) = IsUndecoded R results r e × (e.message ≢ message.OutOfMemory)
Explains R results r check.Memory = Unit {0}

-- The error of the checker for this error of the reader.
abbrev pub IsSaidOf : Error → CheckError → Type 0
IsSaidOf e (check.Untyped offset mismatch) = ⊥
IsSaidOf e (check.InvalidLocal offset ty) = ⊥
IsSaidOf e (check.TooManyLocals offset) = ⊥
IsSaidOf e (check.NotConstant offset) = ⊥
IsSaidOf e (check.Decode d) = (d ≡ e) × (e.message ≢ message.OutOfMemory)
IsSaidOf e check.Memory = e.message ≡ message.OutOfMemory

-- A visit is a step of the algorithm.
abbrev pub StepsOne : {E : Type 0} → Rules Operator → List Frame → Operator → Result Bool E → List Frame → Type 0
StepsOne R old op outcome new = IfOk outcome (λ yes. Answers yes (step (outermost R) old (role_of op)) new)
