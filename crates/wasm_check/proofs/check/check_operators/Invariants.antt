use Rattle.std.proofs.Common.{◌≡◌, length}
use Rattle.wasm_below.specs.Source.{rest}
use Rattle.wasm_check_control.specs.SetLocals.{with_set}
use Rattle.wasm_check_operators.specs.Language.{rules_of}
use Rattle.wasm_check.specs.Constants.{may_occur}
use Rattle.wasm_check.proofs.Along.{HasChecked}
use Rattle.wasm_check.proofs.check.check_operators.Given as goal

abbrev pub invariant-loop-reader : goal.invariant-loop-reader
invariant-loop-reader g l =
    (l.visitor.checker.operators.context.now ≡ l.fn.context) × (l.visitor.constant ≡ l.fn.constant)
    × HasChecked (may_occur l.fn.constant (g.M.ModuleContext.environment l.fn.context)) (rules_of (g.M.ModuleContext.environment l.fn.context)) (g.M.ModuleContext.environment l.fn.context).results l.initial.reader l.reader (with_set l.visitor.checker.operators.control l.visitor.checker.locals)

abbrev pub decreases-loop-reader : goal.decreases-loop-reader
decreases-loop-reader g l = length (rest l.reader.reader)
