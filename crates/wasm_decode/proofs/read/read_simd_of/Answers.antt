use Rattle.std.proofs.Common.{◌≡◌, Some, Ok, refl}
use Rattle.wasm_below.specs.Source.{Reader, at_position}
use Rattle.wasm_instr.specs.declared.operator.Operator.TheVariants as operator
use Rattle.wasm_decode_opcodes.specs.Allowed.{EncodesAllowed}
use Rattle.wasm_decode_opcodes.specs.OperatorFaults.{OperatorFault}
use Rattle.wasm_decode_opcodes.proofs.OperatorLemmas.{visited_without_immediates}
use Rattle.wasm_decode.proofs.DecodingLemmas.{as_read}
use Rattle.wasm_decode.proofs.read.read_simd_of.Goals as goal

pub simd_operator_without_immediates-requires : goal.simd_operator_without_immediates-requires
simd_operator_without_immediates-requires c = c.has_no_immediates.ensures.without c.if-has_no_immediates.true

pub returns-then-has_no_immediates : goal.returns-then-has_no_immediates
returns-then-has_no_immediates c k =
    let r = c.args.reader.now in
    let is = c.has_no_immediates.ensures.without c.if-has_no_immediates.true in
    let op = c.simd_operator_without_immediates in
    as_read (EncodesAllowed r.features k) (OperatorFault r.features k) (at_position r c.args.start) r r r (Ok (operator.Simd op.result))
    (visited_without_immediates {V = Reader} (λ before op outcome after. outcome ≡ op) (OperatorFault r.features k) k (Some 0xfd) c.args.code c.args.start r r r (operator.Simd op.result) is c.requires
    (operator.Simd op.result, refl, op.ensures.0, op.ensures.1, refl))
