use Rattle.std.proofs.Common.{◌≡◌, ◌++◌, List, ℕ, length, drop}
use Rattle.wasm_imm.specs.BranchTables.{numbers_of}
use Rattle.wasm_view.specs.Lists.{written}
use Rattle.wasm_view.proofs.lists.place_targets.Given as goal

abbrev pub invariant-loop-target : goal.invariant-loop-target
invariant-loop-target l =
    (goal.iterator-loop-target).can_next l.target-iterator ×
    (goal.iterator-loop-target).is_finite l.target-iterator ×
    (seen : List ℕ) × (numbers_of l.table.targets ≡ seen ++ l.target-iterator) × (l.index ≡ length seen) ×
    (l.out ≡ written (drop l.fn.from seen) l.fn.out)
