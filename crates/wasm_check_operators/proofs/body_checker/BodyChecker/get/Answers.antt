use Rattle.std.proofs.Common.{sym, ◌∙◌}
use Rattle.wasm_check_operators.proofs.Outcomes.{kept, none_chosen, some_chosen}
use Rattle.wasm_check_operators.proofs.body_checker.BodyChecker.get.Goals as goal

pub returns-then-not-is_set-clause-steps : goal.returns-then-not-is_set-clause-steps
returns-then-not-is_set-clause-steps g c = none_chosen _ _ (sym c.is_set.ensures ∙ c.if-not-is_set.true)

pub returns-clause-steps : goal.returns-clause-steps
returns-clause-steps g c = some_chosen _ c.step.result _ _ (sym c.is_set.ensures ∙ c.if-not-is_set.false) (kept c.step.result _ _ _ c.step.ensures.steps)
