-- Bodies of functions that are typed. WebAssembly Core Specification 3.0: Validation, Modules,
-- Functions and Locals; Binary Format, Code Section.
use Rattle.std.specs.Prelude.{◌≡◌, ◌≢◌, ◌⊎◌, ℕ, ◌+◌, ◌<◌, ◌≤◌, true, false, List, [], ◌∷◌, length, Some, Ok, Err}
use Rattle.wasm_below.specs.declared.error.Error.{Error}
use Rattle.wasm_below.specs.declared.message.Message.TheVariants as message
use Rattle.wasm_below.specs.declared.types.ValType.{ValType}
use Rattle.wasm_below.specs.Source.{Source, Reader, offset_of}
use Rattle.wasm_grammar.specs.Tree.{Expression}
use Rattle.wasm_grammar.specs.Beginning.{IsOnlyTree}
use Rattle.wasm_instr.specs.declared.operator.Operator.{Operator}
use Rattle.wasm_instr.specs.Roles.{roles_of}
use Rattle.wasm_operators.specs.Body.{EncodesBody}
use Rattle.wasm_operators.specs.Expression.{Placed, operators}
use Rattle.wasm_operators.specs.Locals.{Declaration, IsPastLocals, LocalsLeft, OpensLocals, StepsLocals, HasStepped}
use Rattle.wasm_typing.specs.Types.{value_type}
use Rattle.wasm_typing.specs.Matching.{TypeOrder}
use Rattle.wasm_typing.specs.Typing.{ExpressionTyped}
use Rattle.wasm_check_control.specs.Environment.{Environment, stack_of}
use Rattle.wasm_check_control.specs.State.{outermost}
use Rattle.wasm_check_operators.specs.Forms.{is_valid}
use Rattle.wasm_check_operators.specs.Language.{rules_of}
use Rattle.wasm_check_locals.specs.Locals.{locals_of, in_function}
use Rattle.wasm_check.specs.declared.error.CheckError.{CheckError}
use Rattle.wasm_check.specs.declared.error.CheckError.TheVariants as check
use Rattle.wasm_check.specs.Typed.{AreTyped, Explains}

-- A limit of the checker, which the standard permits: the greatest number of parameters and locals
-- of a function.
abbrev pub max_function_locals : ℕ
max_function_locals = 50000

-- The types of the declarations are valid. A declaration of no locals has a type too.
abbrev pub HaveValidTypes : TypeOrder → List Declaration → Type 0
HaveValidTypes O [] = Unit {0}
HaveValidTypes O (d ∷ ds) = (is_valid O (value_type d.1) ≡ true) × HaveValidTypes O ds

-- A function with so many parameters may declare these locals: their types are valid, and they are
-- within the limit.
abbrev pub MayDeclare : TypeOrder → ℕ → List Declaration → Type 0
MayDeclare O params declarations = (params + length (locals_of declarations) ≤ max_function_locals) × HaveValidTypes O declarations

-- The bytes encode a body whose operators are typed, in the context with the parameters followed by
-- the declared locals.
abbrev pub EncodesTypedBody : Environment → List ValType → List ValType → Source → List Declaration → Placed → Type 0
EncodesTypedBody E params results s declarations placed =
    EncodesBody s declarations placed × MayDeclare E.order (length params) declarations ×
    AreTyped (rules_of (in_function E params results (locals_of declarations))) (stack_of results) (operators placed)

-- The bytes encode a body, and the rules type the one tree of its expression.
pub record IsTypedBody (E : Environment) (params results : List ValType) (s : Source) : Type 0 where
  pub declarations : List Declaration
  pub placed : Placed
  pub tree : Expression Operator
  pub encodes : EncodesBody s declarations placed
  pub may_declare : MayDeclare E.order (length params) declarations
  pub only : IsOnlyTree (roles_of (operators placed)) tree
  pub typed : ExpressionTyped (outermost (rules_of (in_function E params results (locals_of declarations)))) tree (stack_of results)

-- A declaration of the body is at this offset, after these.
pub record DeclaresAt (body : Reader) (before : List Declaration) (declaration : Declaration) (offset : ℕ) : Type 0 where
  pub old : LocalsLeft
  pub new : LocalsLeft
  pub stepped : HasStepped before body old
  pub steps : StepsLocals (Some (Ok declaration)) old new
  pub at : offset ≡ offset_of old.locals.reader

-- The declaration at this offset is the first whose type is not valid.
pub record IsInvalidLocalAt (O : TypeOrder) (body : Reader) (offset : ℕ) (ty : ValType) : Type 0 where
  pub before : List Declaration
  pub count : ℕ
  pub declares : DeclaresAt body before (count, ty) offset
  pub valid : HaveValidTypes O before
  pub invalid : is_valid O (value_type ty) ≡ false

-- The declaration at this offset is the first with which the locals exceed the limit.
pub record ExceedsLimitAt (params : ℕ) (body : Reader) (offset : ℕ) : Type 0 where
  pub before : List Declaration
  pub declaration : Declaration
  pub declares : DeclaresAt body before declaration offset
  pub within : params + length (locals_of before) ≤ max_function_locals
  pub beyond : max_function_locals < params + length (locals_of before) + declaration.0

-- The same. Or the parameters alone exceed the limit: then the body starts at this offset.
abbrev pub HasTooManyAt : ℕ → Reader → ℕ → Type 0
HasTooManyAt params body offset = ((max_function_locals < params) × (offset ≡ offset_of body)) ⊎ ExceedsLimitAt params body offset

-- The number of declarations is in error, or a declaration is: its number, its type, or more than
-- 4294967295 locals in all.
abbrev pub StopsLocals : Error → Reader → Type 0
StopsLocals e body =
    OpensLocals (Err e) body ⊎ ((declarations : List Declaration) × (old new : LocalsLeft) × HasStepped declarations body old × StepsLocals (Some (Err e)) old new)

-- What an error says of the locals of a body of a function with so many parameters.
abbrev pub ExplainsLocals : TypeOrder → ℕ → Reader → CheckError → Type 0
ExplainsLocals O params body (check.InvalidLocal offset ty) = IsInvalidLocalAt O body offset ty
ExplainsLocals O params body (check.TooManyLocals offset) = HasTooManyAt params body offset
ExplainsLocals O params body (check.Decode e) = StopsLocals e body × (e.message ≢ message.OutOfMemory)
ExplainsLocals O params body check.Memory = Unit {0}
ExplainsLocals O params body (check.Untyped offset mismatch) = ⊥
ExplainsLocals O params body (check.NotConstant offset) = ⊥

-- The declarations of a body are read up to this reader, and these are their locals.
pub record HasDeclared (O : TypeOrder) (params : ℕ) (locals : List ValType) (body r : Reader) : Type 0 where
  pub declarations : List Declaration
  pub past : IsPastLocals declarations body r
  pub may_declare : MayDeclare O params declarations
  pub are : locals ≡ locals_of declarations

-- What an error says of a body: the locals are in error, or the expression after them.
abbrev pub ExplainsBody : Environment → List ValType → List ValType → Reader → CheckError → Type 0
ExplainsBody E params results body e =
    ExplainsLocals E.order (length params) body e ⊎
    ((locals : List ValType) × (r : Reader) × HasDeclared E.order (length params) locals body r ×
    Explains (rules_of (in_function E params results locals)) (stack_of results) r e)
