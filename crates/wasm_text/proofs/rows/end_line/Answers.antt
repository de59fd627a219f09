use Rattle.std.proofs.Common.{◌≡◌, ℕ, ◌-◌, ◌+◌, ◌/◌, ◌<◌, suc, refl, arith}
use Rattle.wasm_text.specs.Rows.{rows_from}
use Rattle.wasm_text.proofs.Steps.{all_came, row_came}
use Rattle.wasm_text.proofs.rows.end_line.Goals as goal

pub loop-number-preserved : goal.loop-number-preserved
loop-number-preserved c =
    let last : ℕ = c.saturating_sub-last.result / 9 in
    let below : c.loop-number.number < last = let a = c.loop-number-test.true in omega (arith, a) in
    let next : last - c.loop-number.number ≡ suc (last - (c.loop-number.number + 1)) = omega (arith, below) in
    row_came (last - c.loop-number.number) (last - (c.loop-number.number + 1)) c.args.offset (c.loop-number.number + 1) c.args.bytes.now _ _ _ _ next
    c.in_ok-write_row.ensures c.in_ok-push_str-2.ensures.bytes c.loop-number.invariant

pub returns : goal.returns
returns c =
    let last : ℕ = c.saturating_sub-last.result / 9 in
    let a = c.loop-number-test.false in
    all_came (last - c.loop-number.number) (λ k. rows_from k c.args.offset c.args.bytes.now (c.loop-number.number + 1)) _ _ (omega (arith, a)) refl
    c.loop-number.invariant
