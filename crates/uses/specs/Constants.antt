-- Specification: Binary Format, Data Section; Numeric Instructions.
use Rattle.std.specs.Prelude.{◌≡◌, ℕ, ℤ, List, ◌∷◌, [], Option, Some, None}
use Rattle.wasm_operators.specs.below.Source.{Source, Reader, offset_of, Takes}
use Rattle.wasm_operators.specs.instr.declared.operator.Operator.{Operator}
use Rattle.wasm_operators.specs.instr.declared.operator.Operator.TheVariants as operator
use Rattle.wasm_operators.specs.Constant.{EncodesConstant}
use Rattle.wasm_operators.specs.Expression.{Placed, operators, EncodesExpression}

-- The constant of an `i32.const` before one other operator.
abbrev pub i32_of : List Operator → Option ℤ
i32_of (operator.I32Const n ∷ last ∷ []) = Some n
i32_of _ = None

-- These bytes, with the reader's offset and features.
abbrev pub text_at : Reader → List ℕ → Source
text_at r text = record { features = r.features; offset = offset_of r; bytes = text }

-- The reader took a constant expression, and `number` is its constant if it is one `i32.const`.
pub record TakesOffset (number : Option ℤ) (old new : Reader) : Type 0 where
  pub text : List ℕ
  pub takes : Takes old new text
  pub constant : EncodesConstant (text_at old text)
  pub placed : Placed
  pub encodes : EncodesExpression (text_at old text) placed
  pub number_is : number ≡ i32_of (operators placed)
