-- Specification: Binary Format, Expressions; Validation, Constant Expressions.
use Rattle.std.specs.Prelude.{◌≡◌, ◌≢◌, ℕ, List, [], ◌∷◌, ◌++◌, length}
use Rattle.wasm_below.specs.declared.features.WasmFeatures.{WasmFeatures}
use Rattle.wasm_below.specs.FromReader.{IsReaderOf}
use Rattle.wasm_below.specs.Source.{Source, Reader, source_of}
use Rattle.wasm_instr.specs.declared.operator.Operator.{Operator}
use Rattle.wasm_instr.specs.declared.operator.Operator.TheVariants as operator
use Rattle.wasm_operators.specs.Expression.{Placed, operators, EncodesExpression}

abbrev pub HasNoEnd : List Operator → Type 0
HasNoEnd [] = Unit {0}
HasNoEnd (op ∷ ops) = (op ≢ operator.End) × HasNoEnd ops

-- Exactly one of the operators is `end`, the last.
abbrev pub EndsOnce : List Operator → Type 0
EndsOnce ops = (before : List Operator) × (ops ≡ before ++ operator.End ∷ []) × HasNoEnd before

-- All of the bytes encode an expression with exactly one `end`.
abbrev pub EncodesConstant : Source → Type 0
EncodesConstant s = (placed : Placed) × EncodesExpression s placed × EndsOnce (operators placed)

-- The bytes encode an expression with exactly one `end`; the value is a new reader of them.
abbrev pub EncodesConstantReader : WasmFeatures → List ℕ → Reader → Type 0
EncodesConstantReader features text r = IsReaderOf features (length text) text r × EncodesConstant (source_of r)
