-- Specification: Binary Format, Expressions; Validation, Constant Expressions.
use Rattle.std.specs.Prelude.{◌≡◌, ◌≢◌, ℕ, ◌⊎◌, List, [], ◌++◌}
use Rattle.wasm_below.specs.declared.features.WasmFeatures.{WasmFeatures}
use Rattle.wasm_below.specs.declared.message.Message.{Message}
use Rattle.wasm_below.specs.declared.message.Message.TheVariants as message
use Rattle.wasm_below.specs.Source.{Reader, reader_of}
use Rattle.wasm_grammars.specs.Grammar.{Grammar, part}
use Rattle.wasm_operators.specs.Constant.{EncodesConstantReader}
use Rattle.wasm_operators.specs.ConstantFaults.{ConstantFault, ConstantMayAllocate}
use Rattle.wasm_encode_constants.specs.BytesLaws.{IsConstant, EncodesBytes, bytes_are_part}

-- An expression that ends with its first `end`. The value is its bytes.
abbrev pub constant_bytes : WasmFeatures → Grammar (List ℕ)
constant_bytes features = part (EncodesBytes features) ConstantFault ConstantMayAllocate (bytes_are_part features)

-- The error of reading the bytes, or bytes are left after an expression.
abbrev pub ConstantReason : WasmFeatures → List ℕ → Message → Type 0
ConstantReason features bytes m = ((offset : ℕ) × ConstantFault m (reader_of features 0 bytes) offset) ⊎
    ((m ≡ message.UnexpectedData) × (text after : List ℕ) × IsConstant features text × (bytes ≡ text ++ after) × (after ≢ []))
