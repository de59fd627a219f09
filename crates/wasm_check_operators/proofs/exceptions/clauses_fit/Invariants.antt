use Rattle.std.proofs.Common.{◌≡◌, drop}
use Rattle.wasm_typing.specs.Steps.{labels_of}
use Rattle.wasm_check_operators.specs.Exceptions.{clauses_fit}
use Rattle.wasm_check_operators.proofs.exceptions.clauses_fit.Given as goal

abbrev pub invariant-loop-i : goal.invariant-loop-i
invariant-loop-i g l =
    clauses_fit (g.M.ModuleContext.environment l.context) (labels_of l.control) (drop l.i l.clauses) ≡
    clauses_fit (g.M.ModuleContext.environment l.context) (labels_of l.control) l.clauses
