use Rattle.wasm_check_operators.proofs.Needs.{gets, sets_by, tees, opens_block, opens_loop, opens_an_if, opens_try_table, turns, ends_by, keeps}
use Rattle.wasm_check_operators.proofs.Others.{moved}
use Rattle.wasm_check_operators.proofs.body_checker.BodyChecker.step.Goals as goal

pub returns-in-LocalGet-clause-steps : goal.returns-in-LocalGet-clause-steps
returns-in-LocalGet-clause-steps g c =
    let old = c.args.self.now in
    moved c.get.result _ _ _ (gets (g.M.ModuleContext.environment old.operators.context.now) old.operators.control old.locals c.args.op.now _ c.in-LocalGet.is) c.get.ensures.steps

pub returns-in-LocalSet-clause-steps : goal.returns-in-LocalSet-clause-steps
returns-in-LocalSet-clause-steps g c =
    let old = c.args.self.now in
    moved c.set.result _ _ _ (sets_by (g.M.ModuleContext.environment old.operators.context.now) old.operators.control old.locals c.args.op.now _ c.in-LocalSet.is) c.set.ensures.steps

pub returns-in-LocalTee-clause-steps : goal.returns-in-LocalTee-clause-steps
returns-in-LocalTee-clause-steps g c =
    let old = c.args.self.now in
    moved c.set-in-LocalTee.result _ _ _ (tees (g.M.ModuleContext.environment old.operators.context.now) old.operators.control old.locals c.args.op.now _ c.in-LocalTee.is) c.set-in-LocalTee.ensures.steps

pub returns-in-Block-clause-steps : goal.returns-in-Block-clause-steps
returns-in-Block-clause-steps g c =
    let old = c.args.self.now in
    moved c.open.result _ _ _ (opens_block (g.M.ModuleContext.environment old.operators.context.now) old.operators.control old.locals c.args.op.now _ c.in-Block.is) c.open.ensures.steps

pub returns-in-Loop-clause-steps : goal.returns-in-Loop-clause-steps
returns-in-Loop-clause-steps g c =
    let old = c.args.self.now in
    moved c.open-in-Loop.result _ _ _ (opens_loop (g.M.ModuleContext.environment old.operators.context.now) old.operators.control old.locals c.args.op.now _ c.in-Loop.is) c.open-in-Loop.ensures.steps

pub returns-in-If-clause-steps : goal.returns-in-If-clause-steps
returns-in-If-clause-steps g c =
    let old = c.args.self.now in
    moved c.open-in-If.result _ _ _ (opens_an_if (g.M.ModuleContext.environment old.operators.context.now) old.operators.control old.locals c.args.op.now _ c.in-If.is) c.open-in-If.ensures.steps

pub returns-in-TryTable-clause-steps : goal.returns-in-TryTable-clause-steps
returns-in-TryTable-clause-steps g c =
    let old = c.args.self.now in
    moved c.open-in-TryTable.result _ _ _ (opens_try_table (g.M.ModuleContext.environment old.operators.context.now) old.operators.control old.locals c.args.op.now _ c.in-TryTable.is) c.open-in-TryTable.ensures.steps

pub returns-in-Else-clause-steps : goal.returns-in-Else-clause-steps
returns-in-Else-clause-steps g c =
    let old = c.args.self.now in
    moved c.turn.result _ _ _ (turns (g.M.ModuleContext.environment old.operators.context.now) old.operators.control old.locals c.args.op.now c.in-Else.is) c.turn.ensures.steps

pub returns-in-End-clause-steps : goal.returns-in-End-clause-steps
returns-in-End-clause-steps g c =
    let old = c.args.self.now in
    moved c.end.result _ _ _ (ends_by (g.M.ModuleContext.environment old.operators.context.now) old.operators.control old.locals c.args.op.now c.in-End.is) c.end.ensures.steps

pub returns-in_default-clause-steps : goal.returns-in_default-clause-steps
returns-in_default-clause-steps g c =
    let old = c.args.self.now in
    moved c.keep.result _ _ _ (keeps (g.M.ModuleContext.environment old.operators.context.now) old.operators.control old.locals c.args.op.now
    c.in_default.not-LocalGet c.in_default.not-LocalSet c.in_default.not-LocalTee c.in_default.not-Block c.in_default.not-Loop c.in_default.not-If c.in_default.not-TryTable c.in_default.not-Else c.in_default.not-End) c.keep.ensures.steps
