-- The encodings of the operators that a frame allows.
use Rattle.std.specs.Prelude.{ℕ, List, Option, Some, None}
use Rattle.wasm_below.specs.declared.features.WasmFeatures.{WasmFeatures}
use Rattle.wasm_grammar.specs.declared.frame_kind.FrameKind.{FrameKind}
use Rattle.wasm_grammar.specs.Frames.{Allows}
use Rattle.wasm_instr.specs.declared.operator.Operator.{Operator}
use Rattle.wasm_instr.specs.Encoding.{EncodesOperator}
use Rattle.wasm_instr.specs.Kinds.{IsSimd}
use Rattle.wasm_instr.specs.Roles.{role_of}

-- The text encodes the operator, and a frame of this kind allows it.
abbrev pub EncodesAllowed : WasmFeatures → FrameKind → List ℕ → Operator → Type 0
EncodesAllowed f k text op = EncodesOperator f text op × Allows k (role_of op)

-- As `EncodesAllowed`, and the operator is no SIMD operator.
abbrev pub EncodesScalar : WasmFeatures → FrameKind → List ℕ → Operator → Type 0
EncodesScalar f k text op = EncodesAllowed f k text op × ¬ IsSimd op

-- `Encodes` in this innermost frame. If none is open, no bytes encode an operator.
abbrev pub EncodesIn : (FrameKind → List ℕ → Operator → Type 0) → Option FrameKind → List ℕ → Operator → Type 0
EncodesIn Encodes None text op = ⊥
EncodesIn Encodes (Some k) text op = Encodes k text op
