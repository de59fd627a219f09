use Rattle.std.proofs.Common.{List, [], ◌∷◌, ◌++◌, ap}
use Rattle.wasm_grammar.specs.declared.frame_kind.FrameKind.{FrameKind}
use Rattle.wasm_grammar.proofs.Innermost.{without_innermost_view}
use Rattle.wasm_operators.specs.Stack.{OpenFrames}
use Rattle.wasm_operators.proofs.stack.ControlStack.turn.Goals as goal

pub returns-clause-frames : goal.returns-clause-frames
returns-clause-frames c = ap (λ (x : List FrameKind). x ++ c.args.frame ∷ [])
    (without_innermost_view c.self.inside.around.items c.self.inside.current c.args.self.now.frames c.self.invariant
    (ap (λ (s : OpenFrames). s.frames) c.self.view_is))
