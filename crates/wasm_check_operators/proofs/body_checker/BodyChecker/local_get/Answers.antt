use Rattle.std.proofs.Common.{refl, sym, ◌∙◌}
use Rattle.wasm_instr.specs.declared.operator.Operator.TheVariants as operator
use Rattle.wasm_check_operators.proofs.Needs.{gets}
use Rattle.wasm_check_operators.proofs.Outcomes.{none_chosen}
use Rattle.wasm_check_operators.proofs.body_checker.BodyChecker.local_get.Goals as goal

pub returns-then-not-is_set-clause-steps : goal.returns-then-not-is_set-clause-steps
returns-then-not-is_set-clause-steps g c =
    let old = c.args.self.now in
    gets (g.M.ModuleContext.environment old.operators.context.now) old.operators.control old.locals (operator.LocalGet c.args.index) c.args.index refl ∙
    none_chosen _ _ (sym c.is_set.ensures ∙ c.if-not-is_set.true)
