use Rattle.std.proofs.Common.{◌*◌, ◌^◌, ap, arith}
use Rattle.wasm_below.proofs.Septets.{one_more, septet_fits}
use Rattle.wasm_below.proofs.long_numbers.read_septets.Goals as goal

pub overflow_add-low : goal.overflow_add-low
overflow_add-low c =
    let l = c.loop-septet in
    let f = septet_fits c.args.buffer.now c.args.start l.position l.low l.shift l._septet c.args.bits c.from.result l.invariant c.loop-septet-test.true
    c.requires.high (omega arith) in
    omega (arith, f)

pub loop-septet-preserved : goal.loop-septet-preserved
loop-septet-preserved c =
    let l = c.loop-septet in
    let f = septet_fits c.args.buffer.now c.args.start l.position l.low l.shift l._septet c.args.bits c.from.result l.invariant c.loop-septet-test.true
    c.requires.high (omega arith) in
    one_more c.args.buffer.now c.args.start l.position l.low l.shift l._septet _ l.invariant c.if-position-buffer.false c.if-byte-lt128.false (omega arith)
    (omega (arith, f.0, ap (λ x. x * 2 ^ l.shift) c.from.ensures))
