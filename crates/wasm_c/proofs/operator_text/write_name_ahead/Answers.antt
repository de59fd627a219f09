use Rattle.std.proofs.Common.{refl, inr}
use Rattle.wasm_text.specs.Names.{text_name}
use Rattle.wasm_c.specs.OperatorTexts.{RefusesTextName}
use Rattle.wasm_c.proofs.Members.{text_there, no_text_there, text_placed}
use Rattle.wasm_c.proofs.operator_text.write_name_ahead.Goals as goal

pub returns-in-Ok : goal.returns-in-Ok
returns-in-Ok c =
    let there = text_there c.frame_for.result c.in-Ok.op c.args.ahead.now c.in-Ok.ensures in
    text_placed text_name RefusesTextName c.in-Ok.op c.text_name.result.now c.place_text.result c.args.ahead.now c.args.at c.args.length.now c.place_text.new.length c.args.out.now
    c.place_text.new.out there c.text_name.ensures c.place_text.ensures

pub returns-in-Err : goal.returns-in-Err
returns-in-Err c =
    inr (no_text_there c.frame_for.result c.in-Err.error c.of.result c.args.ahead.now c.frame_for.ensures c.in-Err.ensures c.of.ensures, (refl, refl))
