use Rattle.std.proofs.Common.{◌-◌, ◌≤◌, length}
use Rattle.wasm_imm.specs.BranchTables.{HasTargets}
use Rattle.wasm_imm.proofs.branch_table.pass_targets.Given as goal

abbrev pub invariant-loop-targets : goal.invariant-loop-targets
invariant-loop-targets l = (l.targets ≤ l.count) × (l.position ≤ length l.bytes) × HasTargets l.targets l.bytes 0 l.position

abbrev pub decreases-loop-targets : goal.decreases-loop-targets
decreases-loop-targets l = l.count - l.targets
