use Rattle.std.proofs.Common.{◌∙◌}
use Rattle.wasm_check_control.specs.State.{results_of}
use Rattle.wasm_check_control.proofs.OnTop.{has_taken}
use Rattle.wasm_check_control.proofs.control.Control.has.Goals as goal

pub returns : goal.returns
returns g c =
    c.has_results.ensures ∙
    has_taken (g.M.ModuleContext.environment c.args.context.now).order c.self.inside.current c.self.inside.around.items c.self.inside.operands c.args.self.now c.in-Some.frame
    c.in-Some.is c.self.invariant.0 c.self.view_is (results_of c.args.one c.args.many.now)
