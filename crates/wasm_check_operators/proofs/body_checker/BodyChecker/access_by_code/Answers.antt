use Rattle.wasm_check_operators.proofs.ByCode.{access_step}
use Rattle.wasm_check_operators.proofs.Others.{moved}
use Rattle.wasm_check_operators.proofs.Outcomes.{kept}
use Rattle.wasm_check_operators.proofs.body_checker.BodyChecker.access_by_code.Goals as goal

pub returns-clause-steps : goal.returns-clause-steps
returns-clause-steps g c =
    let old = c.args.self.now in
    moved c.access_by_code.result _ _ _ (access_step (g.M.ModuleContext.environment old.operators.context.now) old.operators.control old.locals c.args.op.now c.args.memarg.now c.requires.access)
    (kept c.access_by_code.result _ _ _ c.access_by_code.ensures.steps)
