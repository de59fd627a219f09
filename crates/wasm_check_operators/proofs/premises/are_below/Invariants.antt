use Rattle.std.proofs.Common.{◌≡◌, drop}
use Rattle.wasm_check_operators.specs.Forms.{are_below}
use Rattle.wasm_check_operators.proofs.premises.are_below.Given as goal

abbrev pub invariant-loop-i : goal.invariant-loop-i
invariant-loop-i l = are_below l.count (drop l.i l.lanes) ≡ are_below l.count l.lanes
