-- Specification: Binary Format, Expressions; Validation, Constant Expressions.
use Rattle.wasm_below.specs.declared.features.WasmFeatures.{WasmFeatures}
use Rattle.wasm_below.specs.Source.{Reader}
use Rattle.wasm_grammars.specs.Grammar.{Grammar, part, here}
use Rattle.wasm_grammars.specs.Parts.{◌>>=◌}
use Rattle.wasm_operators.specs.ConstantFaults.{ConstantFault, ConstantMayAllocate}
use Rattle.wasm_constants.specs.ConstantLaws.{EncodesConstantAt, constant_is_part}

-- A reader of an expression that ends with its first `end`.
abbrev pub const_expr : WasmFeatures → Grammar Reader
const_expr features = do
  at ← here
  part (EncodesConstantAt features at) ConstantFault ConstantMayAllocate (constant_is_part features at)
