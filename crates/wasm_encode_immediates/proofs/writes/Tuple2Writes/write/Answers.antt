use Rattle.std.proofs.Common.{arith}
use Rattle.wasm_encode_immediates.proofs.Sequences.{then_written, first_fails}
use Rattle.wasm_encode_immediates.proofs.writes.Tuple2Writes.write.Goals as goal

pub returns-in-Ok-clause-written : goal.returns-in-Ok-clause-written
returns-in-Ok-clause-written g c =
    let a = g.A.Immediates.listed c.args.bound c.args.self.0 in
    let b = g.B.Immediates.listed c.args.bound c.args.self.1 in
    let k = c.in-Ok.ensures.written.1 in
    let l = c.write-in-Ok.ensures.written.1 in
    (then_written c.args.features a b c.write-in-Ok.result _ _ _ c.in-Ok.ensures.written.0 c.write-in-Ok.ensures.written.0, omega (arith, k, l))

pub returns-in-Err-clause-written : goal.returns-in-Err-clause-written
returns-in-Err-clause-written g c =
    let a = g.A.Immediates.listed c.args.bound c.args.self.0 in
    let b = g.B.Immediates.listed c.args.bound c.args.self.1 in
    (first_fails c.args.features a b c.in-Err.e _ _ c.in-Err.ensures.written.0, c.in-Err.ensures.written.1)
