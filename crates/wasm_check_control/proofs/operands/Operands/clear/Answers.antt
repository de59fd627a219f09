use Rattle.wasm_check_control.proofs.SegmentLemmas.{clear_there}
use Rattle.wasm_check_control.proofs.operands.Operands.clear.Goals as goal

pub returns-in-Some : goal.returns-in-Some
returns-in-Some c = clear_there c.self.inside.floor c.self.inside.outer.items c.in-Some.floor c.in-Some.is c.self.inside.items.items c.truncate.new.self.items c.args.self.now
    c.self.invariant.0 c.self.view_is c.truncate.ensures.items
