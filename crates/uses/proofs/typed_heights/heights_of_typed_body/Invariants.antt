use Rattle.std.proofs.Common.{List, length, drop, ◌-◌}
use Rattle.wasm_operators.specs.Body.{EncodesBody}
use Rattle.wasm_operators.specs.Expression.{operators}
use Rattle.wasm_operators.specs.Locals.{Declaration}
use Rattle.wasm_check_locals.specs.Locals.{in_function, locals_of}
use Rattle.uses.specs.Input.{input}
use Rattle.uses.specs.TypedHeights.{HasHeight}
use Rattle.uses.proofs.typed_heights.heights_of_typed_body.Given as goal

abbrev pub invariant-loop-at : goal.invariant-loop-at
invariant-loop-at g l =
    (declarations : List Declaration) × EncodesBody (input l.fn.features l.fn.bytes) declarations l.operators ×
    HasHeight (in_function (g.M.ModuleContext.environment l.fn.module) l.fn.ty.params.now l.fn.ty.results.now (locals_of declarations)) l.height (operators (drop l.at l.operators))

abbrev pub decreases-loop-at : goal.decreases-loop-at
decreases-loop-at g l = length l.operators - l.at
