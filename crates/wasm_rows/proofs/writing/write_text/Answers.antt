use Rattle.std.proofs.Common.{[], sym, ap, ◌∙◌}
use Rattle.std.proofs.lemmas.List.{take_rest}
use Rattle.wasm_rows.proofs.Appended.{appends_none, part_more, part_kept}
use Rattle.wasm_rows.proofs.writing.write_text.Goals as goal
use Rattle.wasm_rows.proofs.writing.write_text.Goals.{in-Ok, in-Err+else-ne}

pub loop-try-init : goal.loop-try-init
loop-try-init g c = ([], sym c.as_bytes-left.ensures.value, appends_none (g.W.Write.contents c.args.writer.now))

pub loop-try-preserved : goal.loop-try-preserved
loop-try-preserved g c =
    let old = g.W.Write.contents c.args.writer.now in
    let mid = g.W.Write.contents c.loop-try.writer in
    let new = g.W.Write.contents c.write.new.self in
    let (done, whole, before) = c.loop-try.invariant in
    let left = c.loop-try.left.now in
    let now = c.match-write.left.now in
    elim c.match-write.branch [
      | in-Ok w ↦ part_more old mid new c.args.text.now done left now w.in-Ok.written whole before w.in-Ok.ensures.bytes (ap (λ b. b.now) w.left-is ∙ take_rest left w.in-Ok.written)
      | in-Err+else-ne w ↦ part_kept old mid new c.args.text.now done left now whole before w.in-Err.ensures.bytes (ap (λ b. b.now) w.left-is)
    ]
