use Rattle.std.proofs.Common.{Ok, Err}
use Rattle.wasm_constants.proofs.ConstantReads.{constant_reads}
use Rattle.wasm_constants.proofs.constant.ConstantRead.read_from.Goals as goal

pub returns-in-Ok : goal.returns-in-Ok
returns-in-Ok c = constant_reads (Ok c.in-Ok.expression) c.args.reader.now c.read.new.reader c.in-Ok.ensures.reads c.in-Ok.ensures.placed

pub returns-in-Err : goal.returns-in-Err
returns-in-Err c = constant_reads (Err c.in-Err.e) c.args.reader.now c.read.new.reader c.in-Err.ensures.reads tt
