use Rattle.wasm_check_control.specs.Environment.{stack_of}
use Rattle.wasm_check_control.proofs.Tops.{with_top, no_top, moved}
use Rattle.wasm_check_control.proofs.control.Control.fixed_with.Goals as goal

pub returns-then-not-expect : goal.returns-then-not-expect
returns-then-not-expect g c =
    no_top (g.M.ModuleContext.environment c.args.context.now).order c.args.top (stack_of c.args.takes.now) (stack_of c.args.leaves.now) c.args.self.now c.if-not-expect.ensures

pub returns : goal.returns
returns g c =
    moved c.fixed.result _ _ _ (with_top (g.M.ModuleContext.environment c.args.context.now).order c.args.top (stack_of c.args.takes.now) (stack_of c.args.leaves.now) c.args.self.now c.expect.new.self
    c.if-not-expect.ensures) c.fixed.ensures
