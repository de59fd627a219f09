use Rattle.std.proofs.Common.{arith}
use Rattle.wasm_c.proofs.Steps.{frames_left, data_left, finished}
use Rattle.wasm_c.proofs.reader.WasmReader.finish.Goals as goal

pub returns-then-self-gt0 : goal.returns-then-self-gt0
returns-then-self-gt0 c =
    frames_left c.args.bytes.now c.args.frames.now c.args.self.now c.in-Some.ahead c.new.result c.original_position-offset.result c.of.result
    c.in-Some.ensures.ahead.0 c.in-Some.ensures.ahead.1 c.if-self-gt0.true c.new.ensures.message c.new.ensures.offset c.original_position-offset.ensures
    c.of.ensures

pub returns-then-not-eof : goal.returns-then-not-eof
returns-then-not-eof c =
    data_left c.args.bytes.now c.args.frames.now c.args.self.now c.in-Some.ahead c.new-then-not-eof.result c.original_position-offset.result
    c.of-then-not-eof.result c.in-Some.ensures.ahead.0 c.in-Some.ensures.ahead.1 (omega (arith, c.if-self-gt0.false)) (λ all. absurd (cc (c.eof.ensures.1 all, c.if-not-eof.true)))
    c.new-then-not-eof.ensures.message c.new-then-not-eof.ensures.offset c.original_position-offset.ensures c.of-then-not-eof.ensures

pub returns : goal.returns
returns c =
    finished c.args.bytes.now c.args.frames.now c.args.self.now c.in-Some.ahead c.original_position-offset.result c.none.result c.in-Some.ensures.ahead.0
    c.in-Some.ensures.ahead.1 (omega (arith, c.if-self-gt0.false)) (c.eof.ensures.0 c.if-not-eof.false) c.original_position-offset.ensures c.none.ensures
