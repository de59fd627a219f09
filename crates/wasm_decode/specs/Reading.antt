use Rattle.std.specs.Prelude.{ℕ, Option, Result, Ok, Err}
use Rattle.wasm_below.specs.declared.error.Error.{Error}
use Rattle.wasm_below.specs.Source.{Reader}
use Rattle.wasm_grammar.specs.declared.frame_kind.FrameKind.{FrameKind}
use Rattle.wasm_instr.specs.declared.operator.Operator.{Operator}
use Rattle.wasm_instr.specs.declared.operator.Operator.TheVariants as operator
use Rattle.wasm_instr_ops.specs.declared.gc.GcOperator.{GcOperator}
use Rattle.wasm_decode_opcodes.specs.Allowed.{EncodesAllowed, EncodesIn}
use Rattle.wasm_decode_opcodes.specs.Decoding.{DecodesOperator, DecodesOperatorAt}
use Rattle.wasm_decode_opcodes.specs.OperatorFaults.{OperatorFault, FaultIn}

-- `DecodesOperator` in this innermost frame. If none is open, the error is `OperatorsRemaining`.
abbrev pub DecodesOperatorIn : Option FrameKind → Result Operator Error → Reader → Reader → Type 0
DecodesOperatorIn frame result old new =
    DecodesOperator (EncodesIn (EncodesAllowed old.features) frame) (FaultIn (OperatorFault old.features) frame) result old new

-- As `DecodesOperatorAt` after the prefix byte 0xfb, for a `GcOperator`.
abbrev pub DecodesGcAt : FrameKind → ℕ → Result GcOperator Error → Reader → Reader → Type 0
DecodesGcAt frame start (Ok op) old new = DecodesOperatorAt frame start (Ok (operator.Gc op)) old new
DecodesGcAt frame start (Err e) old new = DecodesOperatorAt frame start (Err e) old new
