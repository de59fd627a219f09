use Rattle.std.proofs.Common.{◌≡◌}
use Rattle.wasm_disassembly.proofs.Sums.{added_first}
use Rattle.wasm_disassembly.proofs.counts.add.Given as goal

abbrev pub invariant-places : goal.invariant-places
invariant-places l = l.counts ≡ added_first l.place l.fn.counts l.more
