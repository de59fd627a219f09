-- Constant expressions. WebAssembly Core Specification 3.0: Validation, Instructions, Constant
-- Expressions.
use Rattle.std.specs.Prelude.{◌≡◌, ℕ, ◌+◌, Bool, true, false, if◌then◌else◌, List, [], ◌∷◌, ◌++◌, length, Option, Some, None}
use Rattle.wasm_below.specs.declared.types.ValType.{ValType}
use Rattle.wasm_below.specs.Source.{Source, Reader, source_of}
use Rattle.wasm_instr.specs.declared.operator.Operator.{Operator}
use Rattle.wasm_instr.specs.declared.operator.Operator.TheVariants as operator
use Rattle.wasm_instr.specs.Encoding.{EncodesOperator}
use Rattle.wasm_instr_ops.specs.declared.gc.GcOperator.{GcOperator}
use Rattle.wasm_instr_ops.specs.declared.gc.GcOperator.TheVariants as gc
use Rattle.wasm_instr_ops.specs.declared.numeric.NumericOperator.{NumericOperator}
use Rattle.wasm_instr_ops.specs.declared.numeric.NumericOperator.TheVariants as numeric
use Rattle.wasm_instr_simd.specs.declared.simd.SimdOperator.{SimdOperator}
use Rattle.wasm_instr_simd.specs.declared.simd.SimdOperator.TheVariants as simd
use Rattle.wasm_operators.specs.Expression.{Placed, operators, LaidOut}
use Rattle.wasm_typing.specs.Types.{Stack}
use Rattle.wasm_typing.specs.Rules.{Rules}
use Rattle.wasm_check_control.specs.Environment.{Environment, Global}
use Rattle.wasm_check_locals.specs.Locals.{in_function}
use Rattle.wasm_check.specs.declared.error.CheckError.{CheckError}
use Rattle.wasm_check.specs.declared.error.CheckError.TheVariants as check
use Rattle.wasm_check.specs.Typed.{CanBeTyped, with_bytes, IsTypedExpression, Explains}

abbrev pub is_constant_numeric : NumericOperator → Bool
is_constant_numeric numeric.I32Add = true
is_constant_numeric numeric.I32Sub = true
is_constant_numeric numeric.I32Mul = true
is_constant_numeric numeric.I64Add = true
is_constant_numeric numeric.I64Sub = true
is_constant_numeric numeric.I64Mul = true
is_constant_numeric _ = false

abbrev pub is_constant_vector : SimdOperator → Bool
is_constant_vector (simd.V128Const c) = true
is_constant_vector _ = false

abbrev pub is_constant_aggregate : GcOperator → Bool
is_constant_aggregate (gc.StructNew x) = true
is_constant_aggregate (gc.StructNewDefault x) = true
is_constant_aggregate (gc.ArrayNew x) = true
is_constant_aggregate (gc.ArrayNewDefault x) = true
is_constant_aggregate (gc.ArrayNewFixed x n) = true
is_constant_aggregate gc.RefI31 = true
is_constant_aggregate gc.AnyConvertExtern = true
is_constant_aggregate gc.ExternConvertAny = true
is_constant_aggregate _ = false

-- Not a mutable global. An index without a global has no type.
abbrev pub is_immutable : Option Global → Bool
is_immutable None = true
is_immutable (Some g) = if g.mutable then false else true

-- The operators of constant expressions, and the end of the expression.
abbrev pub is_constant : Environment → Operator → Bool
is_constant E (operator.I32Const c) = true
is_constant E (operator.I64Const c) = true
is_constant E (operator.F32Const c) = true
is_constant E (operator.F64Const c) = true
is_constant E (operator.RefNull h) = true
is_constant E (operator.RefFunc x) = true
is_constant E (operator.GlobalGet x) = is_immutable (E.globals x)
is_constant E (operator.Numeric op) = is_constant_numeric op
is_constant E (operator.Simd op) = is_constant_vector op
is_constant E (operator.Gc op) = is_constant_aggregate op
is_constant E operator.End = true
is_constant E _ = false

-- The context of a constant expression that leaves a value of this type.
abbrev pub constant_in : Environment → ValType → Environment
constant_in E ty = in_function E [] (ty ∷ []) []

-- Whether an operator may occur in an expression, which has to be constant if the first argument is true.
abbrev pub may_occur : Bool → Environment → Operator → Bool
may_occur true E op = is_constant E op
may_occur false E op = true

-- Each of these operators may occur.
abbrev pub MayOccur : (Operator → Bool) → List Operator → Type 0
MayOccur may [] = Unit {0}
MayOccur may (op ∷ ops) = (may op ≡ true) × MayOccur may ops

-- The bytes encode an expression whose operators may occur, and the rules type its one tree.
pub record IsTypedOf (may : Operator → Bool) (R : Rules Operator) (results : Stack) (s : Source) : Type 0 where
  pub expression : IsTypedExpression R results s
  pub may_occur : MayOccur may (operators expression.placed)

-- The operator at this offset is the first that may not occur. The bytes before it begin a typed
-- expression.
pub record OccursNotAt (may : Operator → Bool) (R : Rules Operator) (results : Stack) (s : Source) (offset : ℕ) : Type 0 where
  pub before : Placed
  pub op : Operator
  pub beginning : List ℕ
  pub text : List ℕ
  pub more : List ℕ
  pub parts : s.bytes ≡ beginning ++ (text ++ more)
  pub laid : LaidOut s.features s.offset beginning before
  pub at : offset ≡ s.offset + length beginning
  pub encodes : EncodesOperator s.features text op
  pub begun : CanBeTyped R results (with_bytes s beginning)
  pub may_occur : MayOccur may (operators before)
  pub none : may op ≡ false

-- What an error says of an expression of operators that may occur.
abbrev pub ExplainsOf : (Operator → Bool) → Rules Operator → Stack → Reader → CheckError → Type 0
ExplainsOf may R results r (check.NotConstant offset) = OccursNotAt may R results (source_of r) offset
ExplainsOf may R results r e = Explains R results r e
