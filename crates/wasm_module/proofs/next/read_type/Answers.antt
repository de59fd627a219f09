use Rattle.wasm_module.proofs.Places.{no_type}
use Rattle.wasm_module.proofs.next.read_type.Goals as goal

pub returns-in-None-clause-none : goal.returns-in-None-clause-none
returns-in-None-clause-none c = λ h. c.in-None.ensures.none h.2.0 h.2.2

pub returns-in-Err-clause-none : goal.returns-in-Err-clause-none
returns-in-Err-clause-none c =
    no_type c.sections.ensures c.args.bytes.now c.args.bodies.now.types c.in-Some.found.0 c.in-Err.field-0 c.in-Some.ensures.some c.in-Err.ensures.1
