use Rattle.wasm_c.proofs.reader.WasmReader.read_next.Goals as goal

pub returns-in-Ok : goal.returns-in-Ok
returns-in-Ok c = (c.in-Ok.ensures c.args.bytes.now c.in-Some.ensures.ahead.0 c.in-Some.ensures.ahead.1).0

pub returns-in-Err : goal.returns-in-Err
returns-in-Err c = c.in-Err.ensures c.args.bytes.now c.in-Some.ensures.ahead.0 c.in-Some.ensures.ahead.1
