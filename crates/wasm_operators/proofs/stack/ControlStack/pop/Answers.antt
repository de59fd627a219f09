use Rattle.std.proofs.Common.{sym, ap, ◌∙◌}
use Rattle.wasm_grammar.proofs.Innermost.{innermost_view, without_innermost_view}
use Rattle.wasm_operators.specs.Stack.{OpenFrames}
use Rattle.wasm_operators.proofs.stack.ControlStack.pop.Goals as goal

pub returns-clause-frame : goal.returns-clause-frame
returns-clause-frame c = innermost_view c.self.inside.around.items c.self.inside.current c.args.self.now.frames c.self.invariant
    (ap (λ (s : OpenFrames). s.frames) c.self.view_is)

pub returns-clause-frames : goal.returns-clause-frames
returns-clause-frames c = sym c.pop-self-inside.ensures.items ∙
    without_innermost_view c.self.inside.around.items c.self.inside.current c.args.self.now.frames c.self.invariant
    (ap (λ (s : OpenFrames). s.frames) c.self.view_is)
