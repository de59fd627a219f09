use Rattle.wasm_below.proofs.Septets.{SoFar}
use Rattle.wasm_below.proofs.long_numbers.read_septets.Given as goal

abbrev pub invariant-loop-septet : goal.invariant-loop-septet
invariant-loop-septet l = SoFar l.buffer l.start l.position l.low l.shift l._septet
