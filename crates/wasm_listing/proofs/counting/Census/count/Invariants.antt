use Rattle.std.proofs.Common.{◌≡◌}
use Rattle.wasm_listing.specs.Census.{proposals}
use Rattle.wasm_listing.proofs.Places.{counted_first}
use Rattle.wasm_listing.proofs.counting.Census.count.Given as goal

abbrev pub invariant-places : goal.invariant-places
invariant-places l = l.self-inside.counts ≡ counted_first l.place l.proposal proposals l.fn.self
