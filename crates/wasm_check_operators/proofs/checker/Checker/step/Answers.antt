use Rattle.std.proofs.Common.{ap, ◌∙◌}
use Rattle.wasm_grammar.specs.Role.{block, loop, try_table, opens, opens_if}
use Rattle.wasm_instr.specs.declared.operator.Operator.TheVariants as operator
use Rattle.wasm_instr.specs.Roles.{role_of}
use Rattle.wasm_typing.specs.Steps.{step}
use Rattle.wasm_check_control.specs.State.{outermost}
use Rattle.wasm_check_control.proofs.Steps.{step_is}
use Rattle.wasm_check_operators.specs.Language.{rule, opening_type, rules_if_set}
use Rattle.wasm_check_operators.proofs.Others.{other, moved}
use Rattle.wasm_check_operators.proofs.checker.Checker.step.Goals as goal

pub returns-in-Block-clause-steps : goal.returns-in-Block-clause-steps
returns-in-Block-clause-steps g c =
    let E = g.M.ModuleContext.environment c.args.self.now.context.now in
    moved c.open.result _ _ _ (ap (λ o. step (outermost (rules_if_set E)) c.args.self.now.control (role_of o)) c.in-Block.is ∙
    step_is E.order (rule E) (opening_type E) c.args.self.now.control (opens block (operator.Block c.in-Block.blockty))) c.open.ensures.steps

pub returns-in-Loop-clause-steps : goal.returns-in-Loop-clause-steps
returns-in-Loop-clause-steps g c =
    let E = g.M.ModuleContext.environment c.args.self.now.context.now in
    moved c.open-in-Loop.result _ _ _ (ap (λ o. step (outermost (rules_if_set E)) c.args.self.now.control (role_of o)) c.in-Loop.is ∙
    step_is E.order (rule E) (opening_type E) c.args.self.now.control (opens loop (operator.Loop c.in-Loop.blockty))) c.open-in-Loop.ensures.steps

pub returns-in-If-clause-steps : goal.returns-in-If-clause-steps
returns-in-If-clause-steps g c =
    let E = g.M.ModuleContext.environment c.args.self.now.context.now in
    moved c.open-in-If.result _ _ _ (ap (λ o. step (outermost (rules_if_set E)) c.args.self.now.control (role_of o)) c.in-If.is ∙
    step_is E.order (rule E) (opening_type E) c.args.self.now.control (opens_if (operator.If c.in-If.blockty))) c.open-in-If.ensures.steps

pub returns-in-TryTable-clause-steps : goal.returns-in-TryTable-clause-steps
returns-in-TryTable-clause-steps g c =
    let E = g.M.ModuleContext.environment c.args.self.now.context.now in
    moved c.open_try_table.result _ _ _ (ap (λ o. step (outermost (rules_if_set E)) c.args.self.now.control (role_of o)) c.in-TryTable.is ∙
    step_is E.order (rule E) (opening_type E) c.args.self.now.control (opens try_table (operator.TryTable c.in-TryTable.try_table))) c.open_try_table.ensures.steps

pub returns-in_default : goal.returns-in_default
returns-in_default g c =
    record {
      same = c.apply.ensures.same;
      steps = moved c.apply.result _ _ _ (other (g.M.ModuleContext.environment c.args.self.now.context.now) c.args.self.now.control c.args.op.now
          c.in_default.not-Block c.in_default.not-Loop c.in_default.not-If c.in_default.not-TryTable c.in_default.not-Else c.in_default.not-End) c.apply.ensures.steps;
    }
