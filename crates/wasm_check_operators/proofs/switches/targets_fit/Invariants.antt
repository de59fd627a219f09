use Rattle.std.proofs.Common.{◌≡◌}
use Rattle.wasm_imm.specs.BranchTables.{numbers_of}
use Rattle.wasm_typing.specs.Steps.{labels_of}
use Rattle.wasm_check_control.specs.Switches.{targets_fit}
use Rattle.wasm_check_operators.proofs.switches.targets_fit.Given as goal

abbrev pub invariant-loop-target : goal.invariant-loop-target
invariant-loop-target g l =
    (goal.iterator-loop-target g).can_next l.target-iterator ×
    (goal.iterator-loop-target g).is_finite l.target-iterator ×
    (targets_fit (g.M.ModuleContext.environment l.context).order (labels_of l.control) l.target-iterator l.control l.count ≡
    targets_fit (g.M.ModuleContext.environment l.context).order (labels_of l.control) (numbers_of l.table.targets) l.control l.count)
