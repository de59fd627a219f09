use Rattle.std.proofs.Common.{Ok, Err, ap, subst, sym, ◌≤◌, length, ◌∙◌}
use Rattle.wasm_below.specs.Source.{at_position}
use Rattle.wasm_decode_groups.proofs.Copies.{left_within, by_copy}
use Rattle.wasm_grammar.specs.declared.frame_kind.FrameKind.TheVariants as frame_kind
use Rattle.wasm_decode.proofs.out_of_line.visit_after_prefix.Goals as goal

pub set_position-requires : goal.set_position-requires
set_position-requires g c =
    let call = c.out_of_line-outcome in
    let after = c.args.after in
    let old = c.args.reader.now in
    let within = left_within g.V.Visitor.visits frame_kind.Block c.args.start old c.clone-copy.result call.new.reader call.new.error c.args.v.now call.new.v
    (g.B.AfterPrefix.prefix after) (g.B.AfterPrefix.code after) call.result c.clone-copy.ensures c.requires.after (call.ensures frame_kind.Block) in
    subst (λ n. n ≤ length old.buffer) (sym c.current_position.ensures) within

pub returns-in-Some : goal.returns-in-Some
returns-in-Some g c k =
    let call = c.out_of_line-outcome in
    by_copy g.V.Visitor.visits k c.args.start c.args.reader.now c.clone-copy.result call.new.reader c.args.v.now call.new.v c.clone-copy.ensures
    (Ok c.in-Some.outcome) c.set_position.new.self (c.in-Some.ensures k) (c.set_position.ensures ∙ ap (at_position c.args.reader.now) c.current_position.ensures)

pub returns-in-None : goal.returns-in-None
returns-in-None g c k =
    let call = c.out_of_line-outcome in
    by_copy g.V.Visitor.visits k c.args.start c.args.reader.now c.clone-copy.result call.new.reader c.args.v.now call.new.v c.clone-copy.ensures
    (Err call.new.error) c.set_position.new.self (c.in-None.ensures k) (c.set_position.ensures ∙ ap (at_position c.args.reader.now) c.current_position.ensures)
