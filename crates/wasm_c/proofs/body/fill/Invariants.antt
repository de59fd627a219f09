use Rattle.std.proofs.Common.{◌-◌, length}
use Rattle.wasm_c.proofs.Filled.{Filled}
use Rattle.wasm_c.proofs.body.fill.Given as goal

-- The operators that were read are at the start of the array.
abbrev pub invariant-places : goal.invariant-places
invariant-places l = Filled l.fn.operators l.operators l.count l.fn.out l.out

abbrev pub decreases-places : goal.decreases-places
decreases-places l = length l.fn.out - l.count
