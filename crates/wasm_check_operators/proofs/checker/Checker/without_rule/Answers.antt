use Rattle.wasm_check_control.proofs.Steps.{nothing}
use Rattle.wasm_check_operators.proofs.checker.Checker.without_rule.Goals as goal

pub returns : goal.returns
returns g c = nothing (g.M.ModuleContext.environment c.args.self.now.context.now).order c.args.self.now.control
