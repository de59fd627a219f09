use Rattle.std.proofs.Common.{◌≡◌, take, Some}
use Rattle.wasm_check_control.specs.Environment.{stack_of}
use Rattle.wasm_check_control.specs.State.{taken}
use Rattle.wasm_check_control.proofs.control.Control.expect_all.Given as goal

abbrev pub invariant-loop-i : goal.invariant-loop-i
invariant-loop-i g l = taken (g.M.ModuleContext.environment l.context).order (take l.i (stack_of l.types)) l.initial.self ≡ Some l.self
