use Rattle.std.proofs.Common.{ap}
use Rattle.wasm_grammar.proofs.Innermost.{innermost_view}
use Rattle.wasm_operators.specs.Stack.{OpenFrames}
use Rattle.wasm_operators.proofs.stack.ControlStack.last.Goals as goal

pub returns : goal.returns
returns c = innermost_view c.self.inside.around.items c.self.inside.current c.args.self.now.frames c.self.invariant
    (ap (λ (s : OpenFrames). s.frames) c.self.view_is)
