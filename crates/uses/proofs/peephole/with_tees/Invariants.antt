use Rattle.std.proofs.Common.{length, drop, ◌-◌, ◌≤◌}
use Rattle.wasm_operators.specs.Expression.{operators}
use Rattle.uses.proofs.Teed.{AreTeedFrom}
use Rattle.uses.proofs.peephole.with_tees.Given as goal

abbrev pub invariant-loop-at : goal.invariant-loop-at
invariant-loop-at l = record {
  teed : AreTeedFrom (operators l.ops) (operators l.teed.items) (operators (drop l.at l.ops));
  le : l.at ≤ length l.ops;
}

abbrev pub decreases-loop-at : goal.decreases-loop-at
decreases-loop-at l = length l.ops - l.at
