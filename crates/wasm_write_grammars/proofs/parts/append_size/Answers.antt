use Rattle.std.proofs.Common.{arith}
use Rattle.wasm_write_grammars.proofs.parts.append_size.Goals as goal

pub returns-in-Ok : goal.returns-in-Ok
returns-in-Ok c =
    let w = c.in-Ok.ensures in
    let low = c.if-count-limit.false in
    record { text = w.text; appended = w.appended; encodes = λ place. (w.encodes place, omega (arith, low)); shortest = λ place other p. w.shortest place other p.0 }
