-- Specification: Appendix, Validation Algorithm.
use Rattle.std.specs.Prelude.{◌≡◌, List}
use Rattle.wasm_operators.specs.grammar.declared.frame_kind.FrameKind.{FrameKind}
use Rattle.wasm_operators.specs.grammar.OpenPath.{OpenPath}
use Rattle.wasm_operators.specs.instr.declared.operator.Operator.{Operator}
use Rattle.wasm_operators.specs.instr.Roles.{roles_of}
use Rattle.wasm_operators.specs.MainTheorem.{ReadSoFar}
use Rattle.wasm_operators.specs.Reading.{State}

-- The operators begin an expression, and leave these frames open.
abbrev pub LeadTo : List Operator → List FrameKind → Type 0
LeadTo ops frames = OpenPath (roles_of ops) frames

-- Both readers have read the same operators, and are at one place.
pub record HaveReadSame (first second : State) : Type 0 where
  pub place : second.reader ≡ first.reader
  pub before : List Operator
  pub one : ReadSoFar before first
  pub other : ReadSoFar before second
