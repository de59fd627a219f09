use Rattle.std.proofs.Common.{sym, subst}
use Rattle.wasm_decode_opcodes.specs.Allowed.{EncodesAllowed, EncodesIn}
use Rattle.wasm_decode_opcodes.specs.OperatorFaults.{OperatorFault, FaultIn}
use Rattle.wasm_decode_opcodes.specs.Decoding.{DecodesOperator}
use Rattle.wasm_decode.proofs.DecodingLemmas.{occurs, read_from_start, read_in}
use Rattle.wasm_decode.proofs.read.read_operator.Goals as goal

pub returns-then-code-lt32 : goal.returns-then-code-lt32
returns-then-code-lt32 c =
    let r = c.args.reader.now in
    let k = c.in-Some.frame in
    let s = occurs r c.read_u8.new.self c.in-Ok.code c.current_position-start.result c.in-Ok.ensures c.current_position-start.ensures in
    subst (λ z. DecodesOperator (EncodesIn (EncodesAllowed r.features) z) (FaultIn (OperatorFault r.features) z) c.read_below_0x20.result r c.read_below_0x20.new.reader)
    (sym c.in-Some.is)
    (read_in (EncodesAllowed r.features) (OperatorFault r.features) k r c.read_below_0x20.new.reader c.read_below_0x20.result
    (read_from_start EncodesAllowed OperatorFault k c.current_position-start.result r c.read_u8.new.self c.read_below_0x20.new.reader c.read_below_0x20.result s.0
    c.read_below_0x20.ensures))

pub returns-else-code-lt32 : goal.returns-else-code-lt32
returns-else-code-lt32 c =
    let r = c.args.reader.now in
    let k = c.in-Some.frame in
    let s = occurs r c.read_u8.new.self c.in-Ok.code c.current_position-start.result c.in-Ok.ensures c.current_position-start.ensures in
    subst (λ z. DecodesOperator (EncodesIn (EncodesAllowed r.features) z) (FaultIn (OperatorFault r.features) z) c.read_after_opcode.result r c.read_after_opcode.new.reader)
    (sym c.in-Some.is)
    (read_in (EncodesAllowed r.features) (OperatorFault r.features) k r c.read_after_opcode.new.reader c.read_after_opcode.result
    (read_from_start EncodesAllowed OperatorFault k c.current_position-start.result r c.read_u8.new.self c.read_after_opcode.new.reader c.read_after_opcode.result s.0
    c.read_after_opcode.ensures))
