use Rattle.std.proofs.Common.{sym, ap, ◌∙◌}
use Rattle.wasm_grammar.specs.Frames.{frames_changed}
use Rattle.wasm_grammar.proofs.Innermost.{without_innermost_view}
use Rattle.wasm_operators.specs.Stack.{OpenFrames}
use Rattle.wasm_operators.proofs.stack.ControlStack.apply_change.Goals as goal

pub returns-in-Closes-clause-frames : goal.returns-in-Closes-clause-frames
returns-in-Closes-clause-frames c =
    let s = c.self in
    sym c.pop-self-inside.ensures.items ∙
    without_innermost_view s.inside.around.items s.inside.current c.args.self.now.frames s.invariant
    (ap (λ (x : OpenFrames). x.frames) s.view_is) ∙ ap (frames_changed c.args.self.now.frames) (sym c.in-Closes.is)
