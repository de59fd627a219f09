use Rattle.std.proofs.Common.{◌≡◌, take, map, reverse, Some}
use Rattle.wasm_check_control.specs.State.{taken}
use Rattle.wasm_check_operators.specs.Aggregates.{operand}
use Rattle.wasm_check_operators.proofs.structures.expect_fields.Given as goal

abbrev pub invariant-loop-i : goal.invariant-loop-i
invariant-loop-i g l = taken (g.M.ModuleContext.environment l.context).order (take l.i (reverse (map operand l.fields))) l.initial.control ≡ Some l.control
