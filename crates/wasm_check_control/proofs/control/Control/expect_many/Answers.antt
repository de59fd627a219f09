use Rattle.std.proofs.Common.{Some, arith}
use Rattle.wasm_check_control.proofs.Many.{any_taken, one_more_taken, none_more_taken}
use Rattle.wasm_check_control.proofs.control.Control.expect_many.Goals as goal

pub returns-then-has_any : goal.returns-then-has_any
returns-then-has_any g c =
    any_taken (g.M.ModuleContext.environment c.args.context.now).order c.args.ty c.args.self.now c.loop-i.self c.loop-i.i c.args.count (let p = c.loop-i-test.true in omega (arith, p)) c.loop-i.invariant
    (c.has_any.ensures c.if-has_any.true (g.M.ModuleContext.environment c.args.context.now).order)

pub returns-then-not-expect : goal.returns-then-not-expect
returns-then-not-expect g c =
    none_more_taken (g.M.ModuleContext.environment c.args.context.now).order c.args.ty c.args.self.now c.loop-i.self c.loop-i.i c.args.count c.loop-i-test.true c.loop-i.invariant c.if-not-expect.ensures

pub loop-i-preserved : goal.loop-i-preserved
loop-i-preserved g c =
    one_more_taken (g.M.ModuleContext.environment c.args.context.now).order c.args.ty c.args.self.now c.loop-i.self c.loop-i.i (Some c.expect.new.self) c.loop-i.invariant c.if-not-expect.ensures
