use Rattle.wasm_check_operators.proofs.ByCode.{determined_step}
use Rattle.wasm_check_operators.proofs.Others.{moved}
use Rattle.wasm_check_operators.proofs.Outcomes.{kept}
use Rattle.wasm_check_operators.proofs.body_checker.BodyChecker.by_code.Goals as goal

pub returns-clause-steps : goal.returns-clause-steps
returns-clause-steps g c =
    let old = c.args.self.now in
    moved c.by_code.result _ _ _ (determined_step (g.M.ModuleContext.environment old.operators.context.now) old.operators.control old.locals c.args.op.now c.requires.determined)
    (kept c.by_code.result _ _ _ c.by_code.ensures.steps)
