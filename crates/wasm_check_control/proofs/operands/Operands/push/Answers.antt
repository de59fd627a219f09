use Rattle.wasm_check_control.specs.Segments.{floors_of}
use Rattle.wasm_check_control.proofs.SegmentLemmas.{view_push}
use Rattle.wasm_check_control.proofs.operands.Operands.push.Goals as goal

pub returns-clause-pushed : goal.returns-clause-pushed
returns-clause-pushed c = view_push (floors_of c.self.inside.floor c.self.inside.outer.items) c.self.inside.items.items c.push.new.self.items c.args.ty c.args.self.now
    c.self.invariant.0 c.self.view_is c.in_ok-push.ensures.items
