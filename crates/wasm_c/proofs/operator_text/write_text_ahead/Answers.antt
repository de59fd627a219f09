use Rattle.std.proofs.Common.{◌≡◌, refl, inl, inr, rules}
use Rattle.wasm_text.specs.Operands.{text_of}
use Rattle.wasm_c.specs.OperatorTexts.{RefusesText}
use Rattle.wasm_c.proofs.Members.{text_there, no_text_there, text_placed}
use Rattle.wasm_c.proofs.operator_text.write_text_ahead.Goals as goal

pub returns-in-Ok-write_operator : goal.returns-in-Ok-write_operator
returns-in-Ok-write_operator c =
    let there = text_there c.frame_for.result c.in-Ok.op c.args.ahead.now c.in-Ok.ensures in
    let is : c.as_str.result.now ≡ text_of c.in-Ok.op = search rules in
    text_placed text_of (RefusesText c.args.at) c.in-Ok.op c.as_str.result.now c.place_text.result c.args.ahead.now c.args.at c.args.length.now c.place_text.new.length c.args.out.now
    c.place_text.new.out there is c.place_text.ensures

pub returns : goal.returns
returns c =
    inr (inl (no_text_there c.frame_for.result c.in-Err.error c.of.result c.args.ahead.now c.frame_for.ensures c.in-Err.ensures c.of.ensures), (refl, refl))
