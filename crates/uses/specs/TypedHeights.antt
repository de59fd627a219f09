-- The operands of a typed body, along operators that determine their types.
-- WebAssembly Core Specification 3.0: Appendix, Validation Algorithm.
use Rattle.std.specs.Prelude.{◌≡◌, ℕ, false, List, [], ◌∷◌, length, Some}
use Rattle.wasm_operators.specs.instr.declared.operator.Operator.{Operator}
use Rattle.wasm_operators.specs.instr.Roles.{roles_of}
use Rattle.wasm_typing.specs.Steps.{Frame, steps}
use Rattle.wasm_check_control.specs.Environment.{Environment}
use Rattle.wasm_check_control.specs.State.{outermost}
use Rattle.wasm_check_operators.specs.Language.{rules_of}

-- With this many operands in the only frame, whose code is reachable, the algorithm accepts the
-- operators that are left.
pub record HasHeight (E : Environment) (height : ℕ) (left : List Operator) : Type 0 where
  pub frame : Frame
  pub reachable : frame.now.unreachable ≡ false
  pub high : length frame.now.operands ≡ height
  pub accepted : steps (outermost (rules_of E)) (frame ∷ []) (roles_of left) ≡ Some []
