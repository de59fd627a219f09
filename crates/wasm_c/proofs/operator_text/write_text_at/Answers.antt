use Rattle.std.proofs.Common.{Ok, Err}
use Rattle.wasm_text.specs.Operands.{text_of}
use Rattle.wasm_c.specs.OperatorTexts.{RefusesText}
use Rattle.wasm_c.proofs.Members.{FindsBytes, text_found, text_nowhere}
use Rattle.wasm_c.proofs.operator_text.write_text_at.Goals as goal

pub returns-in-Ok : goal.returns-in-Ok
returns-in-Ok c =
    let s = c.in-Ok.ensures in
    let found : FindsBytes (Ok c.in-Ok.ahead) c.args.bytes.now c.args.offset c.args.features c.args.at =
    record { unknown = s.unknown; past = s.past; before = s.before; after = s.after; there = s.there } in
    text_found text_of (RefusesText c.args.at) c.write_text_ahead.result c.in-Ok.ahead c.args.bytes.now c.args.offset c.args.features c.args.at c.args.length.now c.write_text_ahead.new.length
    c.args.out.now c.write_text_ahead.new.out found c.write_text_ahead.ensures

pub returns-in-Err : goal.returns-in-Err
returns-in-Err c =
    let s = c.in-Err.ensures in
    let found : FindsBytes (Err c.in-Err.refused) c.args.bytes.now c.args.offset c.args.features c.args.at =
    record { unknown = s.unknown; past = s.past; before = s.before; after = s.after; there = s.there } in
    text_nowhere text_of (RefusesText c.args.at) c.in-Err.refused c.args.bytes.now c.args.offset c.args.features c.args.at c.args.length.now c.args.out.now found
