use Rattle.std.proofs.Common.{sym, subst}
use Rattle.wasm_check_control.specs.Environment.{stack_of}
use Rattle.wasm_check_control.specs.State.{Answers}
use Rattle.wasm_check_control.proofs.Tops.{with_jump, no_jump}
use Rattle.wasm_check_control.proofs.control.Control.jumps_with.Goals as goal

pub returns-then-not-expect : goal.returns-then-not-expect
returns-then-not-expect g c =
    no_jump (g.M.ModuleContext.environment c.args.context.now).order c.args.top (stack_of c.args.takes.now) c.args.self.now c.if-not-expect.ensures

pub returns : goal.returns
returns g c =
    subst (λ o. Answers c.jumps.result o c.jumps.new.self)
    (sym (with_jump (g.M.ModuleContext.environment c.args.context.now).order c.args.top (stack_of c.args.takes.now) c.args.self.now c.expect.new.self c.if-not-expect.ensures))
    c.jumps.ensures
