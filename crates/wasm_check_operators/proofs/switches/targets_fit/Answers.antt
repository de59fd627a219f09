use Rattle.std.proofs.Common.{true, false, sym, ap, ◌∙◌}
use Rattle.wasm_typing.specs.Steps.{labels_of}
use Rattle.wasm_check_control.specs.Switches.{targets_fit}
use Rattle.wasm_check_operators.proofs.Targets.{target_tested, all_tested}
use Rattle.wasm_check_operators.proofs.switches.targets_fit.Goals as goal

pub loop-target-init : goal.loop-target-init
loop-target-init g c = (
  tt,
  tt,
  ap (λ ts. targets_fit (g.M.ModuleContext.environment c.args.context.now).order (labels_of c.args.control.now) ts c.args.control.now c.args.count)
      (c.into_iter-target-iterator.ensures.into_iter_gives ∙ sym (c.target_numbers.ensures c.args.table.now.count c.args.table.now.targets c.targets-target-items.result c.targets-target-items.ensures)),
)

pub returns-then-not-target_fits : goal.returns-then-not-target_fits
returns-then-not-target_fits g c =
    target_tested (g.M.ModuleContext.environment c.args.context.now).order (labels_of c.args.control.now) c.args.control.now c.args.count _ c.loop-target.target-iterator c.next.new.self c.in-Ok.depth false
    (c.returned_targets.ensures.next c.loop-target.target-iterator c.next.new.self c.in-Some.target c.in-Ok.depth c.in-Some.ensures.steps c.in-Ok.is)
    (sym c.target_fits.ensures ∙ c.if-not-target_fits.true) c.loop-target.invariant.2

pub loop-target-preserved-else-not-target_fits : goal.loop-target-preserved-else-not-target_fits
loop-target-preserved-else-not-target_fits g c = (
  tt,
  tt,
  target_tested (g.M.ModuleContext.environment c.args.context.now).order (labels_of c.args.control.now) c.args.control.now c.args.count _ c.loop-target.target-iterator c.next.new.self c.in-Ok.depth true
      (c.returned_targets.ensures.next c.loop-target.target-iterator c.next.new.self c.in-Some.target c.in-Ok.depth c.in-Some.ensures.steps c.in-Ok.is)
      (sym c.target_fits.ensures ∙ c.if-not-target_fits.false) c.loop-target.invariant.2,
)

pub loop-target-preserved : goal.loop-target-preserved
loop-target-preserved g c = absurd (c.returned_targets.ensures.ok c.loop-target.target-iterator c.next.new.self c.in-Some.target c.in_default.field-0 c.in-Some.ensures.steps c.in_default.is)

pub returns : goal.returns
returns g c =
    all_tested (g.M.ModuleContext.environment c.args.context.now).order (labels_of c.args.control.now) c.args.control.now c.args.count _ c.loop-target.target-iterator
    (c.returned_targets.ensures.end c.loop-target.target-iterator c.in-None.ensures.steps.0) c.loop-target.invariant.2
