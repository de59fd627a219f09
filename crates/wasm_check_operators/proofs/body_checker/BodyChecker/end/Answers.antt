use Rattle.wasm_check_operators.proofs.Outcomes.{fails, succeeds}
use Rattle.wasm_check_operators.proofs.body_checker.BodyChecker.end.Goals as goal

pub returns-then-not-branch-clause-steps : goal.returns-then-not-branch-clause-steps
returns-then-not-branch-clause-steps g c = fails _ _ _ _ c.if-not-branch.true c.in_ok-step.ensures.steps

pub returns-clause-steps : goal.returns-clause-steps
returns-clause-steps g c = succeeds _ _ _ _ _ c.if-not-branch.false c.in_ok-step.ensures.steps c.close.ensures
