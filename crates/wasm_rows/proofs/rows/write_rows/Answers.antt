use Rattle.std.proofs.Common.{◌≡◌, ℕ, ◌-◌, ◌+◌, ◌/◌, ◌<◌, ◌++◌, length, suc, sym, ap, ◌∙◌, arith}
use Rattle.wasm_rows.specs.Rows.{row_at, rows_from, rows_text}
use Rattle.wasm_rows.proofs.Appended.{halts_after, row_appended}
use Rattle.wasm_rows.proofs.rows.write_rows.Goals as goal

pub loop-number-preserved : goal.loop-number-preserved
loop-number-preserved g c =
    let rows : ℕ = (length c.args.bytes.now + 15) / 16 in
    let k = c.loop-number.number in
    let (done, whole, before) = c.loop-number.invariant in
    let below : k < rows = let a = c.loop-number-test.true in omega (arith, a) in
    let next : rows - k ≡ suc (rows - (k + 1)) = omega (arith, below) in
    row_appended (g.W.Write.contents c.args.writer.now) (g.W.Write.contents c.loop-number.writer) (g.W.Write.contents c.write_row.new.writer) (rows - k)
    (rows - (k + 1)) c.args.address k c.args.before.now c.args.bytes.now done (rows_text c.args.before.now c.args.address c.args.bytes.now) next whole before c.in_default.ensures

pub returns-in-Err : goal.returns-in-Err
returns-in-Err g c =
    let rows : ℕ = (length c.args.bytes.now + 15) / 16 in
    let k = c.loop-number.number in
    let (done, whole, before) = c.loop-number.invariant in
    let below : k < rows = let a = c.loop-number-test.true in omega (arith, a) in
    let next : rows - k ≡ suc (rows - (k + 1)) = omega (arith, below) in
    halts_after c.in-Err.fault (g.W.Write.contents c.args.writer.now) (g.W.Write.contents c.loop-number.writer) (g.W.Write.contents c.write_row.new.writer) done
    (row_at c.args.before.now c.args.address c.args.bytes.now k) (rows_from (rows - (k + 1)) c.args.before.now c.args.address c.args.bytes.now (k + 1)) (rows_text c.args.before.now c.args.address c.args.bytes.now)
    (ap (λ j. done ++ rows_from j c.args.before.now c.args.address c.args.bytes.now k) (sym next) ∙ whole) before c.in-Err.ensures
