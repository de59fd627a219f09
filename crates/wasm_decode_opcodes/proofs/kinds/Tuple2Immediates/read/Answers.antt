use Rattle.wasm_decode_opcodes.proofs.SequenceLemmas.{both_read, first_failed, second_failed}
use Rattle.wasm_decode_opcodes.proofs.kinds.Tuple2Immediates.read.Goals as goal

pub returns-in-Ok-read : goal.returns-in-Ok-read
returns-in-Ok-read g c =
    let b = c.args.bound in
    both_read (g.A.Immediates.kinds b) (g.B.Immediates.kinds b) (g.A.Immediates.listed b c.in-Ok.first) (g.B.Immediates.listed b c.in-Ok-read.second) c.args.reader.now c.read.new.reader c.read-in-Ok.new.reader c.in-Ok.ensures c.in-Ok-read.ensures

pub returns-in-Err-read : goal.returns-in-Err-read
returns-in-Err-read g c =
    let b = c.args.bound in
    second_failed (g.A.Immediates.kinds b) (g.B.Immediates.kinds b) (g.A.Immediates.listed b c.in-Ok.first) c.args.start c.in-Err-read.e c.args.reader.now c.read.new.reader c.read-in-Ok.new.reader c.in-Ok.ensures c.in-Err-read.ensures

pub returns-in-Err : goal.returns-in-Err
returns-in-Err g c =
    let b = c.args.bound in
    first_failed (g.A.Immediates.kinds b) (g.B.Immediates.kinds b) c.args.start c.in-Err.e c.args.reader.now c.read.new.reader c.in-Err.ensures
