use Rattle.std.proofs.Common.{◌≡◌, take, Some}
use Rattle.wasm_check_control.specs.State.{taken}
use Rattle.wasm_check_operators.specs.Forms.{typed}
use Rattle.wasm_check_operators.proofs.signatures.expect.Given as goal

abbrev pub invariant-loop-i : goal.invariant-loop-i
invariant-loop-i g l = taken (g.M.ModuleContext.environment l.context).order (take l.i (typed l.is_64 l.types)) l.initial.control ≡ Some l.control
