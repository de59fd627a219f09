use Rattle.wasm_check_control.proofs.Many.{any_here}
use Rattle.wasm_check_control.proofs.control.Control.has_any.Goals as goal

pub returns : goal.returns
returns c = λ e O s.
    any_here O c.self.inside.current c.self.inside.around.items c.self.inside.operands c.args.self.now c.in-Some.frame c.in-Some.is c.if-not-frame.false
    c.self.invariant.0 c.self.view_is (c.is_empty.ensures.0 e) s
