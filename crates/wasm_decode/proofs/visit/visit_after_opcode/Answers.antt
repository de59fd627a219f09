use Rattle.std.proofs.Common.{None, Ok, arith}
use Rattle.wasm_decode_opcodes.proofs.OperatorLemmas.{visited_without_immediates}
use Rattle.wasm_decode_opcodes.specs.OperatorFaults.{OperatorFault}
use Rattle.wasm_decode_groups.proofs.Codes.{numeric_without_immediates_45}
use Rattle.wasm_decode.proofs.DecodingLemmas.{one_byte_code, to_set}
use Rattle.wasm_decode.proofs.visit.visit_after_opcode.Goals as goal

pub returns-in-14 : goal.returns-in-14
returns-in-14 g c =
    let call = c.table_after_opcode in
    to_set g.V.Visitor.visits g.S.OperatorSet.set c.args.frame c.args.start c.args.code c.args.reader.now call.new.reader c.args.v.now call.new.v call.result
    (λ h. grind (arith, h)) c.requires (call.ensures c.args.frame)

pub returns-in-69-to-196 : goal.returns-in-69-to-196
returns-in-69-to-196 g c =
    let r = c.args.reader.now in
    let k = c.args.frame in
    let call = c.decode_numeric in
    let none = (numeric_without_immediates_45 c.args.code (omega (arith, c.in-69-to-196)) (omega (arith, c.in-69-to-196))).0 in
    to_set g.V.Visitor.visits g.S.OperatorSet.set k c.args.start c.args.code r r c.args.v.now call.new.self (Ok call.result) (λ h. grind (arith, h)) c.requires
    (visited_without_immediates g.V.Visitor.visits (OperatorFault r.features k) k None c.args.code c.args.start r c.args.v.now call.new.self call.result none c.requires call.ensures)

pub returns-in-251 : goal.returns-in-251
returns-in-251 g c =
    let call = c.visit_after_prefix in
    to_set g.V.Visitor.visits g.S.OperatorSet.set c.args.frame c.args.start c.args.code c.args.reader.now call.new.reader c.args.v.now call.new.v call.result
    (λ h. grind (arith, h)) c.requires (call.ensures c.args.frame)

pub returns-in_default : goal.returns-in_default
returns-in_default g c =
    let call = c.visit_after_prefix-in_default in
    to_set g.V.Visitor.visits g.S.OperatorSet.set c.args.frame c.args.start c.args.code c.args.reader.now call.new.reader c.args.v.now call.new.v call.result
    (λ h. grind (arith, h, c.in_default)) c.requires (call.ensures c.args.frame)

pub decode_one_byte-requires-clause-apart : goal.decode_one_byte-requires-clause-apart
decode_one_byte-requires-clause-apart g c = one_byte_code c.args.code (grind arith) (λ same. grind (arith, same)) (λ from to. grind (arith, from, to))

pub returns-in_default-code : goal.returns-in_default-code
returns-in_default-code g c =
    let call = c.decode_one_byte in
    to_set g.V.Visitor.visits g.S.OperatorSet.set c.args.frame c.args.start c.args.code c.args.reader.now call.new.reader c.args.v.now call.new.self call.result
    (λ h. grind (arith, h)) c.requires call.ensures
