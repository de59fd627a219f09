use Rattle.std.proofs.Common.{◌+◌, ◌-◌, ◌≤◌, length}
use Rattle.wasm_imm.specs.BranchTables.{HasTargets}
use Rattle.wasm_imm.proofs.branch_table.pass_short_targets.Given as goal

abbrev pub invariant-loop-position : goal.invariant-loop-position
invariant-loop-position l = (l.position ≤ l.count) × (l.position ≤ length l.bytes) × HasTargets l.position l.bytes 0 l.position

abbrev pub decreases-loop-position : goal.decreases-loop-position
decreases-loop-position l = l.count + 1 - l.position
