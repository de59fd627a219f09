use Rattle.std.proofs.Common.{◌≡◌, drop}
use Rattle.wasm_check_control.specs.Environment.{stack_of}
use Rattle.wasm_check_control.specs.Segments.{innermost}
use Rattle.wasm_check_control.proofs.OnTop.{has}
use Rattle.wasm_check_control.proofs.peeks.has_all.Given as goal

abbrev pub invariant-loop-i : goal.invariant-loop-i
invariant-loop-i g l =
    has (g.M.ModuleContext.environment l.context).order (drop l.i (stack_of l.types)) (drop l.i (innermost l.operands)) l.unreachable ≡
    has (g.M.ModuleContext.environment l.context).order (stack_of l.types) (innermost l.operands) l.unreachable
