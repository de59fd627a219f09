use Rattle.std.proofs.Common.{Ok, Err}
use Rattle.wasm_below.specs.Source.{at_position}
use Rattle.wasm_decode_opcodes.specs.Allowed.{EncodesAllowed}
use Rattle.wasm_decode_opcodes.specs.OperatorFaults.{OperatorFault}
use Rattle.wasm_decode.proofs.DecodingLemmas.{as_read}
use Rattle.wasm_decode.proofs.out_of_line.read_after_prefix.Goals as goal

pub returns-in-Some : goal.returns-in-Some
returns-in-Some g c k =
    let r = c.args.reader.now in
    let call = c.out_of_line in
    as_read (EncodesAllowed r.features k) (OperatorFault r.features k) (at_position r c.args.start) call.new.reader _ call.new.v (Ok c.in-Some.op) (c.in-Some.ensures k)

pub returns-in-None : goal.returns-in-None
returns-in-None g c k =
    let r = c.args.reader.now in
    let call = c.out_of_line in
    as_read (EncodesAllowed r.features k) (OperatorFault r.features k) (at_position r c.args.start) call.new.reader _ call.new.v (Err call.new.error) (c.in-None.ensures k)
