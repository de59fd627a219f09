-- Specification: Binary Format, Instructions and Expressions.
use Rattle.std.specs.Prelude.{◌≡◌, Option, None, Result}
use Rattle.wasm_below.specs.declared.error.Error.{Error}
use Rattle.wasm_below.specs.Source.{Reader}
use Rattle.wasm_decode.specs.Reading.{DecodesOperatorIn}
use Rattle.wasm_grammar.specs.declared.frame_kind.FrameKind.{FrameKind}
use Rattle.wasm_instr.specs.declared.operator.Operator.{Operator}
use Rattle.wasm_operators.specs.Reading.{EndsExpression}

-- The result of reading the next operator; `frame` is the innermost, if one is open.
abbrev pub PeeksOperator : Option FrameKind → Result Operator Error → Reader → Type 0
PeeksOperator frame result r = (after : Reader) × DecodesOperatorIn frame result r after

-- As `Finishes`; `frame` is the innermost frame, or `None` if all are closed.
abbrev pub FinishesExpression : {X : Type 0} → Result X Error → Option FrameKind → Reader → Type 0
FinishesExpression result frame r = EndsExpression result (frame ≡ None) r
