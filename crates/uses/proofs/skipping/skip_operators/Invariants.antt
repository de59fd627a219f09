use Rattle.uses.proofs.Skipped.{HasSkipped}
use Rattle.uses.proofs.skipping.skip_operators.Given as goal

abbrev pub invariant-loop-operator : goal.invariant-loop-operator
invariant-loop-operator l = HasSkipped l._operator l.fn.operators l.operators
