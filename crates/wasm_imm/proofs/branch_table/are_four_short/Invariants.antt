use Rattle.std.proofs.Common.{◌-◌, ◌<◌, ◌≤◌}
use Rattle.wasm_imm.specs.BranchTables.{HasTargets}
use Rattle.wasm_imm.proofs.branch_table.are_four_short.Given as goal

abbrev pub invariant-loop-at : goal.invariant-loop-at
invariant-loop-at l = (l.position ≤ l.at) × (l.bits < 128 → HasTargets (l.at - l.position) l.bytes l.position l.at)
