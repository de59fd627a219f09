use Rattle.std.proofs.Common.{◌≡◌, replicate, Some}
use Rattle.wasm_check_control.specs.State.{taken}
use Rattle.wasm_check_control.proofs.control.Control.expect_many.Given as goal

abbrev pub invariant-loop-i : goal.invariant-loop-i
invariant-loop-i g l = taken (g.M.ModuleContext.environment l.context).order (replicate l.i l.ty) l.initial.self ≡ Some l.self
