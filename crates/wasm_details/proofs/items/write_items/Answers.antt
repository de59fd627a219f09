use Rattle.std.proofs.Common.{◌≡◌, Ok, Err, inl, inr, refl}
use Rattle.wasm_details.proofs.Listed.{writes_none, writes_more}
use Rattle.wasm_details.proofs.items.write_items.Goals as goal

pub items-init : goal.items-init
items-init g c =
    rw c.into_iter-items.ensures.into_iter_gives
    (writes_none g.T.Read.grammar (g.T.Details.lists c.args.context.now) c.args.section c.args.place (g.W.Write.contents c.args.writer.now), refl)

pub items-preserved : goal.items-preserved
items-preserved g c =
    let x = c.in-Ok.item in
    let (w, going) = c.items.invariant in
    let item : c.in-Some.item ≡ Ok x = c.in-Ok.is in
    let steps = rw item at c.in-Some.ensures.steps in (
      writes_more g.T.Read.grammar (g.T.Details.lists c.args.context.now) c.args.section c.args.place c.items.reached c.in-Ok-write_lines.after c.items.items c.next.new.self x
          (g.W.Write.contents c.args.writer.now) (g.W.Write.contents c.items.writer) (g.W.Write.contents c.write_lines.new.writer) w steps.2 steps.3
          c.in-Ok-write_lines.ensures,
      steps.1,
    )

pub returns-in-Err : goal.returns-in-Err
returns-in-Err g c =
    let (w, going) = c.items.invariant in
    let item : c.in-Some.item ≡ Err c.in-Err.e = c.in-Err.is in
    let steps = rw item at c.in-Some.ensures.steps in
    (c.items.items, c.items.reached, g.W.Write.contents c.items.writer, w, inl (c.in-Err.e, refl, steps.2, refl))

pub returns-in-Err-write_lines : goal.returns-in-Err-write_lines
returns-in-Err-write_lines g c =
    let x = c.in-Ok.item in
    let (w, going) = c.items.invariant in
    let item : c.in-Some.item ≡ Ok x = c.in-Ok.is in
    let steps = rw item at c.in-Some.ensures.steps in
    (c.items.items, c.items.reached, g.W.Write.contents c.items.writer, w, inr (x, c.next.new.self.reader, steps.3, c.in-Err-write_lines.ensures))

pub returns : goal.returns
returns g c = let (w, going) = c.items.invariant in (c.items.items, w, going, c.in_default.ensures.steps.1)
