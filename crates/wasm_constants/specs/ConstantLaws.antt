-- A part with its laws.
use Rattle.std.proofs.Common.{◌≡◌, ℕ, List, sym, ◌∙◌}
use Rattle.wasm_below.specs.declared.features.WasmFeatures.{WasmFeatures}
use Rattle.wasm_below.specs.FromReader.{SameReader}
use Rattle.wasm_below.specs.Source.{Reader}
use Rattle.wasm_grammars.specs.Grammar.{IsPart}
use Rattle.wasm_operators.specs.Constant.{EncodesConstantReader}
use Rattle.wasm_operators.specs.ConstantFaults.{ConstantFault}
use Rattle.wasm_operators.proofs.ConstantDetermined.{constant_prefix_code, constant_determines}

-- A constant expression at this offset.
abbrev pub EncodesConstantAt : WasmFeatures → ℕ → List ℕ → Reader → Type 0
EncodesConstantAt features at text r = EncodesConstantReader features text r × (r.start ≡ at)

-- Readers of the same bytes, of which the first has the same offset, are equal.
one_reader : (r s : Reader) → SameReader r s → r.start ≡ s.start → r ≡ s
one_reader r s same start =
    let whole : record { features = r.features; start = r.start; buffer = r.buffer; position = r.position } ≡
    record { features = s.features; start = s.start; buffer = s.buffer; position = s.position } = cc (same.0, same.1, same.2, start) in
    whole

pub constant_is_part : (features : WasmFeatures) (at : ℕ) → IsPart (EncodesConstantAt features at) ConstantFault
constant_is_part features at = record {
  code = λ a b x y m n p q e. (let o = constant_prefix_code features a b x y m n p.0 q.0 e in (o.0, one_reader m n o.1 (p.1 ∙ sym q.1)));
  determines = constant_determines;
}
