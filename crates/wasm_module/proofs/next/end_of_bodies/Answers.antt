use Rattle.wasm_module.proofs.Places.{no_end}
use Rattle.wasm_module.proofs.next.end_of_bodies.Goals as goal

pub returns-in-None : goal.returns-in-None
returns-in-None c = no_end c.args.bytes.now c.args.bodies.now c.requires c.if-bodies-eq0.false c.in-None.ensures.none
