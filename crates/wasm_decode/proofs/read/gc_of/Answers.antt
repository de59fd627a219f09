use Rattle.wasm_decode.proofs.DecodingLemmas.{as_gc}
use Rattle.wasm_decode.proofs.read.gc_of.Goals as goal

pub returns-in-Ok : goal.returns-in-Ok
returns-in-Ok c k =
    let call = c.read_gc_operator in
    as_gc k c.args.start c.args.reader.now c.subopcode.new.reader call.new.reader call.result c.in-Ok.ensures.stays (call.ensures k)

pub returns-in-Err : goal.returns-in-Err
returns-in-Err c k = c.in-Err.ensures.refuses k
