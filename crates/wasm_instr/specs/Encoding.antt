-- Specification: Binary Format, Instructions; proposal legacy exception handling.
use Rattle.std.specs.Prelude.{◌≡◌, ℕ, List, [], ◌∷◌, ◌++◌, Option, Some, None}
use Rattle.wasm_below.specs.declared.features.WasmFeatures.{WasmFeatures}
use Rattle.wasm_below.specs.Features.{HasFeature, legacy_exceptions}
use Rattle.wasm_below.specs.Number.{EncodesUnsigned}
use Rattle.wasm_instr.specs.declared.operator.Operator.{Operator}
use Rattle.wasm_instr.specs.declared.operator.Operator.TheVariants as operator
use Rattle.wasm_instr.specs.Row.{prefix_of, opcode_of, immediates_of}
use Rattle.wasm_imm.specs.Immediate.{EncodesImmediates}

-- The opcode, or the prefix byte and the subopcode (u32).
abbrev pub EncodesOpcode : Option ℕ → List ℕ → ℕ → Type 0
EncodesOpcode None bytes code = bytes ≡ code ∷ []
EncodesOpcode (Some prefix) bytes code = (number : List ℕ) × (bytes ≡ prefix ∷ number) × EncodesUnsigned 32 number code

-- `try`, `catch` and `catch_all` need legacy_exceptions.
abbrev pub IsEnabled : WasmFeatures → Operator → Type 0
IsEnabled f (operator.Try _) = HasFeature legacy_exceptions f
IsEnabled f (operator.Catch _) = HasFeature legacy_exceptions f
IsEnabled f operator.CatchAll = HasFeature legacy_exceptions f
IsEnabled f _ = Unit {0}

-- With these features, the bytes encode opcode and immediates.
pub record EncodesOperator (f : WasmFeatures) (bytes : List ℕ) (op : Operator) : Type 0 where
  pub head : List ℕ
  pub after : List ℕ
  pub parts : bytes ≡ head ++ after
  pub code : EncodesOpcode (prefix_of op) head (opcode_of op)
  pub immediates : EncodesImmediates f after (immediates_of op)
  pub enabled : IsEnabled f op
