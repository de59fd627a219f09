use Rattle.std.proofs.Common.{◌+◌, ◌≤◌, length}
use Rattle.std.specs.Vec.{vec_len, vec_capacity}
use Rattle.wasm_imm.specs.BranchTables.{numbers_of}
use Rattle.wasm_encode.proofs.Targets.{WritesOn}
use Rattle.wasm_encode.proofs.shortened.write_targets.Given as goal

abbrev pub invariant-loop-target : goal.invariant-loop-target
invariant-loop-target l =
    (goal.iterator-loop-target).can_next l.target-iterator ×
    (goal.iterator-loop-target).is_finite l.target-iterator ×
    (w : WritesOn (numbers_of l.table.targets) l.target-iterator l.fn.out.items l.out.items) ×
    (vec_len l.out + length w.left + 20 ≤ vec_capacity l.out) ×
    (vec_len l.out + length w.left ≤ vec_len l.fn.out + length l.table.targets) ×
    (vec_capacity l.fn.out ≤ vec_capacity l.out)
