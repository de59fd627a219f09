use Rattle.std.proofs.Common.{refl}
use Rattle.std.proofs.lemmas.Bool.{false≢true}
use Rattle.uses.proofs.SingleSteps.{ends_nowhere}
use Rattle.uses.proofs.frames.is_over.Goals as goal

pub returns-in-Ok : goal.returns-in-Ok
returns-in-Ok c = (λ is. c.in-Ok.ensures, λ both. refl)

pub returns-in-Err : goal.returns-in-Err
returns-in-Err c = (λ is. absurd (false≢true is), λ both. absurd (ends_nowhere _ _ _ c.in-Err.ensures.1 both))
