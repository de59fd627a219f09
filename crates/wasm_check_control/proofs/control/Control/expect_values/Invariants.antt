use Rattle.std.proofs.Common.{◌≡◌, take, reverse, Some}
use Rattle.wasm_check_control.specs.State.{taken}
use Rattle.wasm_check_control.proofs.control.Control.expect_values.Given as goal

abbrev pub invariant-loop-i : goal.invariant-loop-i
invariant-loop-i g l = taken (g.M.ModuleContext.environment l.context).order (take l.i (reverse l.types)) l.initial.self ≡ Some l.self
