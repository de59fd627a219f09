use Rattle.wasm_check_operators.proofs.Outcomes.{kept}
use Rattle.wasm_check_operators.proofs.body_checker.BodyChecker.keep.Goals as goal

pub returns-clause-steps : goal.returns-clause-steps
returns-clause-steps g c = kept c.step.result _ _ _ c.step.ensures.steps
