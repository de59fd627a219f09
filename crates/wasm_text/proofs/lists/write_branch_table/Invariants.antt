use Rattle.std.proofs.Common.{◌≡◌, ◌++◌, string_bytes, flat_map}
use Rattle.wasm_imm.specs.BranchTables.{numbers_of}
use Rattle.wasm_text.specs.Values.{number_text}
use Rattle.wasm_text.proofs.lists.write_branch_table.Given as goal

abbrev pub invariant-loop-target : goal.invariant-loop-target
invariant-loop-target l =
    (goal.iterator-loop-target).can_next l.target-iterator ×
    (goal.iterator-loop-target).is_finite l.target-iterator ×
    (string_bytes l.out ++ flat_map number_text l.target-iterator ≡ string_bytes l.fn.out ++ flat_map number_text (numbers_of l.table.targets))
