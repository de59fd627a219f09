-- Decoding for a visitor with or without SIMD operators. Specification: Binary Format, Instructions.
use Rattle.std.specs.Prelude.{ℕ, List, Option, Result}
use Rattle.wasm_below.specs.declared.error.Error.{Error}
use Rattle.wasm_below.specs.declared.features.WasmFeatures.{WasmFeatures}
use Rattle.wasm_below.specs.declared.message.Message.{Message}
use Rattle.wasm_below.specs.Source.{Reader, at_position}
use Rattle.wasm_grammar.specs.declared.frame_kind.FrameKind.{FrameKind}
use Rattle.wasm_instr.specs.declared.operator.Operator.{Operator}
use Rattle.wasm_decode_opcodes.specs.Allowed.{EncodesAllowed, EncodesScalar, EncodesIn}
use Rattle.wasm_decode_opcodes.specs.Decoding.{Decodes}
use Rattle.wasm_decode_opcodes.specs.OperatorFaults.{OperatorFault, ScalarOperatorFault, FaultIn}

-- All operators, or all except SIMD operators.
pub data OperatorSet : Type 0 where
  with_simd without_simd : OperatorSet

-- `EncodesAllowed`, or `EncodesScalar`.
abbrev pub EncodesOf : OperatorSet → WasmFeatures → FrameKind → List ℕ → Operator → Type 0
EncodesOf with_simd = EncodesAllowed
EncodesOf without_simd = EncodesScalar

-- `OperatorFault`, or `ScalarOperatorFault`.
abbrev pub FaultOf : OperatorSet → WasmFeatures → FrameKind → Message → Reader → ℕ → Type 0
FaultOf with_simd = OperatorFault
FaultOf without_simd = ScalarOperatorFault

-- `DecodesAt`, or `DecodesScalarAt`.
abbrev pub DecodesSetAt : OperatorSet → {V A : Type 0} → (V → Operator → A → V → Type 0) → FrameKind → ℕ → Result A Error → Reader → Reader → V → V → Type 0
DecodesSetAt set visits frame start result old new v w =
    Decodes visits (EncodesOf set old.features frame) (FaultOf set old.features frame) result (at_position old start) new v w

-- `DecodesIn`, or `DecodesScalarIn`.
abbrev pub DecodesSetIn : OperatorSet → {V A : Type 0} → (V → Operator → A → V → Type 0) → Option FrameKind → Result A Error → Reader → Reader → V → V → Type 0
DecodesSetIn set visits frame result old new v w =
    Decodes visits (EncodesIn (EncodesOf set old.features) frame) (FaultIn (FaultOf set old.features) frame) result old new v w
