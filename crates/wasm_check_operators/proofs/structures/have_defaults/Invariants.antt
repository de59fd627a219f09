use Rattle.std.proofs.Common.{◌≡◌, drop}
use Rattle.wasm_check_operators.specs.Aggregates.{have_defaults}
use Rattle.wasm_check_operators.proofs.structures.have_defaults.Given as goal

abbrev pub invariant-loop-i : goal.invariant-loop-i
invariant-loop-i l = have_defaults (drop l.i l.fields) ≡ have_defaults l.fields
