use Rattle.wasm_subtypes.specs.Types.{order_of}
use Rattle.wasm_subtypes.specs.Composites.{ValueMatches}
use Rattle.wasm_subtypes.proofs.Comparing.{Left}
use Rattle.wasm_subtypes.proofs.composites.values_match.Given as goal

abbrev pub invariant-loop-i : goal.invariant-loop-i
invariant-loop-i l = Left (ValueMatches (order_of l.types)) l.found l.wanted l.i
