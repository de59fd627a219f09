use Rattle.std.proofs.Common.{Some}
use Rattle.wasm_check_control.proofs.Taking.{more_values, none_values}
use Rattle.wasm_check_control.proofs.control.Control.expect_values.Goals as goal

pub returns-then-not-expect : goal.returns-then-not-expect
returns-then-not-expect g c =
    none_values (g.M.ModuleContext.environment c.args.context.now).order c.args.types.now c.loop-i.i _ c.args.self.now c.loop-i.self c.loop-i-test.true c.loop-i.invariant c.if-not-expect.ensures

pub loop-i-preserved : goal.loop-i-preserved
loop-i-preserved g c =
    more_values (g.M.ModuleContext.environment c.args.context.now).order c.args.types.now c.loop-i.i _ c.args.self.now c.loop-i.self (Some c.expect.new.self) c.loop-i-test.true c.loop-i.invariant c.if-not-expect.ensures
