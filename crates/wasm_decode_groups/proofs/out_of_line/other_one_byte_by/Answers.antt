use Rattle.std.proofs.Common.{Err, ap, ◌∙◌}
use Rattle.wasm_below.specs.Source.{at_position}
use Rattle.wasm_decode_groups.proofs.Copies.{by_copy}
use Rattle.wasm_decode_groups.proofs.out_of_line.other_one_byte_by.Goals as goal

pub returns-in-None : goal.returns-in-None
returns-in-None g c =
    let call = c.out_of_line-outcome in
    by_copy g.V.Visitor.visits c.args.frame c.args.start c.args.reader.now c.clone-copy.result call.new.reader c.args.v.now call.new.v c.clone-copy.ensures
    (Err call.new.error) c.set_position.new.self c.in-None.ensures (c.set_position.ensures ∙ ap (at_position c.args.reader.now) c.current_position.ensures)
