use Rattle.std.proofs.Common.{◌∷◌, [], Some, sym, ap, ◌∙◌}
use Rattle.wasm_check_control.specs.State.{taken}
use Rattle.wasm_check_control.proofs.Taking.{more_taken, none_taken}
use Rattle.wasm_check_operators.specs.Aggregates.{operand}
use Rattle.wasm_check_operators.proofs.Others.{taken_nothing, not_so}
use Rattle.wasm_check_operators.proofs.structures.expect_fields.Goals as goal

pub loop-i-init : goal.loop-i-init
loop-i-init g c =
    taken_nothing (g.M.ModuleContext.environment c.args.context.now).order c.args.control.now (not_so c.is_closed.result _ c.is_closed.ensures c.if-is_closed.false)

pub returns-then-not-expect : goal.returns-then-not-expect
returns-then-not-expect g c =
    let O = (g.M.ModuleContext.environment c.args.context.now).order in
    none_taken O operand c.args.fields.now c.loop-i.i _ c.args.control.now c.loop-i.control c.loop-i-test.true c.loop-i.invariant
    (ap (λ v. taken O (v ∷ []) c.loop-i.control) (sym (c.operand.ensures ∙ ap operand c.index-fields-fields.is)) ∙ c.if-not-expect.ensures)

pub loop-i-preserved : goal.loop-i-preserved
loop-i-preserved g c =
    let O = (g.M.ModuleContext.environment c.args.context.now).order in
    more_taken O operand c.args.fields.now c.loop-i.i _ c.args.control.now c.loop-i.control (Some c.expect.new.self) c.loop-i-test.true c.loop-i.invariant
    (ap (λ v. taken O (v ∷ []) c.loop-i.control) (sym (c.operand.ensures ∙ ap operand c.index-fields-fields.is)) ∙ c.if-not-expect.ensures)
