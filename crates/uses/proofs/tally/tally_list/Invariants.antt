use Rattle.std.proofs.Common.{◌≡◌, ◌+◌, ◌^◌, ◌<◌}
use Rattle.uses.proofs.tally.tally_list.Given as goal

abbrev pub invariant-loop-op : goal.invariant-loop-op
invariant-loop-op l = l.fn.tally.operators + l.op-index < 2 ^ 64 → l.tally.operators ≡ l.fn.tally.operators + l.op-index
