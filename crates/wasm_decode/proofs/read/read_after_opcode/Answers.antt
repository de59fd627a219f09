use Rattle.std.proofs.Common.{◌≡◌, Ok, None, arith}
use Rattle.wasm_below.specs.Source.{at_position}
use Rattle.wasm_decode_opcodes.specs.Allowed.{EncodesAllowed}
use Rattle.wasm_decode_opcodes.specs.OperatorFaults.{OperatorFault}
use Rattle.wasm_decode_groups.proofs.Codes.{numeric_without_immediates_45}
use Rattle.wasm_decode_opcodes.proofs.OperatorLemmas.{visited_without_immediates}
use Rattle.wasm_decode.proofs.DecodingLemmas.{as_read, one_byte_code}
use Rattle.wasm_decode.proofs.read.read_after_opcode.Goals as goal

pub read_one_byte-requires-clause-apart : goal.read_one_byte-requires-clause-apart
read_one_byte-requires-clause-apart c = one_byte_code c.args.code (grind arith) (λ same. grind (arith, same)) (λ from to. grind (arith, from, to))

pub returns-in-69-to-196 : goal.returns-in-69-to-196
returns-in-69-to-196 c =
    let r = c.args.reader.now in
    let k = c.args.frame in
    let call = c.numeric_by in
    let none = (numeric_without_immediates_45 c.args.code (omega (arith, c.in-69-to-196)) (omega (arith, c.in-69-to-196))).0 in
    as_read (EncodesAllowed r.features k) (OperatorFault r.features k) (at_position r c.args.start) r _ call.new.v (Ok call.result)
    (visited_without_immediates (λ before op outcome after. outcome ≡ op) (OperatorFault r.features k) k None c.args.code c.args.start r _ call.new.v call.result none c.requires
    call.ensures)
