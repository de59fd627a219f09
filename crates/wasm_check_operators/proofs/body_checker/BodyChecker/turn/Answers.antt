use Rattle.wasm_check_operators.proofs.Outcomes.{fails, succeeds, else_sets}
use Rattle.wasm_check_operators.proofs.body_checker.BodyChecker.turn.Goals as goal

pub returns-then-not-branch-clause-steps : goal.returns-then-not-branch-clause-steps
returns-then-not-branch-clause-steps g c = fails _ _ _ _ c.if-not-branch.true c.in_ok-step.ensures.steps

pub returns-clause-steps : goal.returns-clause-steps
returns-clause-steps g c =
    succeeds _ _ _ _ _ c.if-not-branch.false c.in_ok-step.ensures.steps
    (else_sets c.is_outermost-is_outermost.result c.args.self.now.operators.control c.args.self.now.locals c.close_or_clear.new.self c.open.new.self c.is_outermost-is_outermost.ensures c.close_or_clear.ensures c.in_ok-open.ensures.opened)
