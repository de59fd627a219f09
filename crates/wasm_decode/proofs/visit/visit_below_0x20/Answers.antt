use Rattle.std.proofs.Common.{arith}
use Rattle.wasm_decode.proofs.DecodingLemmas.{one_byte_code, to_set}
use Rattle.wasm_decode.proofs.visit.visit_below_0x20.Goals as goal

pub returns-in-14 : goal.returns-in-14
returns-in-14 g c = λ set.
    to_set g.V.Visitor.visits set c.args.frame c.args.start c.args.code c.args.reader.now c.table_after_opcode.new.reader c.args.v.now c.table_after_opcode.new.v c.table_after_opcode.result
    (λ h. grind (arith, h, c.requires.low)) c.requires.after (c.table_after_opcode.ensures c.args.frame)

pub decode_below_0x20-requires-clause-apart : goal.decode_below_0x20-requires-clause-apart
decode_below_0x20-requires-clause-apart g c =
    one_byte_code c.args.code (grind (arith, c.requires.low)) (λ same. grind (arith, same, c.in_default)) (λ from to. grind (arith, from, c.requires.low))

pub returns-in_default : goal.returns-in_default
returns-in_default g c = λ set.
    to_set g.V.Visitor.visits set c.args.frame c.args.start c.args.code c.args.reader.now c.decode_below_0x20.new.reader c.args.v.now c.decode_below_0x20.new.self c.decode_below_0x20.result
    (λ h. grind (arith, h, c.requires.low)) c.requires.after c.decode_below_0x20.ensures
