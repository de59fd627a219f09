use Rattle.uses.proofs.SingleSteps.{refusal_of}
use Rattle.uses.proofs.single_steps.next_refusal.Goals as goal

pub returns : goal.returns
returns c = rw c.err.ensures.value (refusal_of c.read.result c.args.operators.now c.read.new.self c.read.ensures)
