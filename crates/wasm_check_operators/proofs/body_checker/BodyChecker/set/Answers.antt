use Rattle.std.proofs.Common.{Some, sym, ap, ◌∙◌}
use Rattle.wasm_typing.specs.Rules.{is_ready}
use Rattle.wasm_check_control.specs.SetLocals.{set_now}
use Rattle.wasm_check_control.specs.State.{outermost}
use Rattle.wasm_check_operators.specs.Language.{rules_of}
use Rattle.wasm_check_operators.proofs.Outcomes.{fails, succeeds, first_of_two, second_of_two}
use Rattle.wasm_check_operators.proofs.body_checker.BodyChecker.set.Goals as goal

pub returns-then-not-branch-clause-steps : goal.returns-then-not-branch-clause-steps
returns-then-not-branch-clause-steps g c = fails _ _ _ _ c.if-not-branch.true c.in_ok-step.ensures.steps

pub returns-then-is_set-clause-steps : goal.returns-then-is_set-clause-steps
returns-then-is_set-clause-steps g c =
    let ready = ap (λ k. is_ready (outermost (rules_of (g.M.ModuleContext.environment k.now))) (Some c.args.local) (set_now c.args.self.now.locals)) (sym c.in_ok-step.ensures.same) in
    succeeds _ _ _ _ _ c.if-not-branch.false c.in_ok-step.ensures.steps (first_of_two _ _ _ (ready ∙ sym c.is_set.ensures ∙ c.if-is_set.true))

pub returns-clause-steps : goal.returns-clause-steps
returns-clause-steps g c =
    let ready = ap (λ k. is_ready (outermost (rules_of (g.M.ModuleContext.environment k.now))) (Some c.args.local) (set_now c.args.self.now.locals)) (sym c.in_ok-step.ensures.same) in
    succeeds _ _ _ _ _ c.if-not-branch.false c.in_ok-step.ensures.steps (second_of_two _ _ _ _ (ready ∙ sym c.is_set.ensures ∙ c.if-is_set.false) c.in_ok-add.ensures.added)
