use Rattle.std.proofs.Common.{◌≡◌, ℕ, ℤ, ◌+◌, List, length, drop, Option, ap, subst, ◌∙◌, arith}
use Rattle.wasm_operators.specs.below.declared.features.WasmFeatures.{WasmFeatures}
use Rattle.wasm_operators.specs.below.FromReader.{IsReaderOf}
use Rattle.wasm_operators.specs.below.Source.{Source, Reader, offset_of, source_of, Takes}
use Rattle.wasm_operators.specs.Constant.{EncodesConstant, EncodesConstantReader}
use Rattle.wasm_operators.specs.Expression.{Placed, operators, EncodesExpression}
use Rattle.uses.specs.Constants.{i32_of, text_at, TakesOffset}

abbrev source : WasmFeatures → ℕ → List ℕ → Source
source features offset bytes = record { features = features; offset = offset; bytes = bytes }

text_is : (r constant : Reader) (text : List ℕ) → IsReaderOf r.features (length text) text constant → constant.start ≡ offset_of r →
    source_of constant ≡ text_at r text
text_is r constant text (features, buffer, position, all) start =
    let offset : offset_of constant ≡ offset_of r = ap (λ p. constant.start + p) position ∙ omega (arith, start) in
    let bytes : drop constant.position constant.buffer ≡ text = ap (λ p. drop p constant.buffer) position ∙ buffer in
    ap (λ f. source f (offset_of constant) (drop constant.position constant.buffer)) features ∙
    ap (λ o. source r.features o (drop constant.position constant.buffer)) offset ∙ ap (source r.features (offset_of r)) bytes

pub takes_offset : (r new constant : Reader) (text : List ℕ) (placed : Placed) (number : Option ℤ) → Takes r new text →
    EncodesConstantReader r.features text constant → constant.start ≡ offset_of r → EncodesExpression (source_of constant) placed →
    number ≡ i32_of (operators placed) → TakesOffset number r new
takes_offset r new constant text placed number takes encodes start expression is =
    let same = text_is r constant text encodes.0 start in
    record {
      text = text;
      takes = takes;
      constant = subst EncodesConstant same encodes.1;
      placed = placed;
      encodes = subst (λ s. EncodesExpression s placed) same expression;
      number_is = is;
    }
