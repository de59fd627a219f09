use Rattle.uses.proofs.Teed.{too_short}
use Rattle.uses.proofs.peephole.set_and_get.Goals as goal

pub returns-then-ops-at-lt2 : goal.returns-then-ops-at-lt2
returns-then-ops-at-lt2 c = too_short c.args.ops.now c.args.at c.if-ops-at-lt2.true
