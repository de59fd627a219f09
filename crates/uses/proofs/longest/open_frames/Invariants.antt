use Rattle.std.proofs.Common.{◌≡◌, ◌≤◌, ◌+◌, drop}
use Rattle.wasm_operators.specs.Expression.{operators}
use Rattle.uses.specs.Frames.{open_after}
use Rattle.uses.proofs.longest.open_frames.Given as goal

abbrev pub invariant-loop-op : goal.invariant-loop-op
invariant-loop-op l = (l.open ≤ 1 + l.op-index) × (open_after l.open (operators (drop l.op-index l.list)) ≡ open_after 1 (operators l.list))
