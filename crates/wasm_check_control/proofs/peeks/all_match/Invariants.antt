use Rattle.std.proofs.Common.{◌≡◌, drop}
use Rattle.wasm_typing.specs.Checking.{all_match}
use Rattle.wasm_check_control.specs.Environment.{stack_of}
use Rattle.wasm_check_control.proofs.peeks.all_match.Given as goal

abbrev pub invariant-loop-i : goal.invariant-loop-i
invariant-loop-i g l =
    all_match (g.M.ModuleContext.environment l.context).order (drop l.i (stack_of l.types)) (drop l.i (stack_of l.wanted)) ≡
    all_match (g.M.ModuleContext.environment l.context).order (stack_of l.types) (stack_of l.wanted)
