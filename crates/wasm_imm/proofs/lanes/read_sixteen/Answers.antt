use Rattle.std.proofs.Common.{◌≤◌, length, ap, ◌∙◌, arith}
use Rattle.wasm_below.proofs.Blocks.{short_refused}
use Rattle.wasm_imm.specs.Vectors.{EncodesSixteen}
use Rattle.wasm_imm.proofs.lanes.read_sixteen.Goals as goal

pub returns-in-Err : goal.returns-in-Err
returns-in-Err c =
    let r = c.args.reader.now in
    let h = c.in-Err.ensures in
    let within : r.position ≤ length r.buffer = omega (arith, h.1.ahead.0, h.1.ahead.1) in
    (h.0, short_refused EncodesSixteen 16 c.in-Err.e r (λ text bytes p. ap length p.0 ∙ p.1) within h.2, h.2)
