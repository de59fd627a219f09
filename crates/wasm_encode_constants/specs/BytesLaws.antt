-- A part with its laws.
use Rattle.std.proofs.Common.{◌≡◌, ℕ, List, sym, ◌∙◌}
use Rattle.wasm_below.specs.declared.features.WasmFeatures.{WasmFeatures}
use Rattle.wasm_below.specs.Source.{Reader}
use Rattle.wasm_grammars.specs.Grammar.{IsPart}
use Rattle.wasm_operators.specs.Constant.{EncodesConstantReader}
use Rattle.wasm_operators.specs.ConstantFaults.{ConstantFault}
use Rattle.wasm_operators.proofs.ConstantDetermined.{constant_prefix_code, constant_determines}

-- The bytes are a constant expression, at any offset.
abbrev pub IsConstant : WasmFeatures → List ℕ → Type 0
IsConstant features text = (r : Reader) × EncodesConstantReader features text r

abbrev pub EncodesBytes : WasmFeatures → List ℕ → List ℕ → Type 0
EncodesBytes features text bytes = (bytes ≡ text) × IsConstant features text

pub bytes_are_part : (features : WasmFeatures) → IsPart (EncodesBytes features) ConstantFault
bytes_are_part features = record {
  code = λ a b x y m n p q e. (let o = constant_prefix_code features a b x y p.1.0 q.1.0 p.1.1 q.1.1 e in (o.0, p.0 ∙ o.0 ∙ sym q.0));
  determines = constant_determines;
}
