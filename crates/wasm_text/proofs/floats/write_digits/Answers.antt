use Rattle.std.proofs.Common.{◌≡◌, ◌-◌, suc, ◌+◌, ◌<◌, arith}
use Rattle.wasm_text.proofs.Fractions.{all_written, digit_written, end_written}
use Rattle.wasm_text.proofs.floats.write_digits.Goals as goal

pub returns-then-left-eq0 : goal.returns-then-left-eq0
returns-then-left-eq0 c = all_written (13 - c.loop-place._place) _ _ c.loop-place.left c.args.fraction c.if-left-eq0.true c.loop-place.invariant.0

pub loop-place-preserved : goal.loop-place-preserved
loop-place-preserved c =
    let below : c.loop-place._place < 13 = let a = c.loop-place-test.true in omega (arith, a) in
    let next : 13 - c.loop-place._place ≡ suc (13 - (c.loop-place._place + 1)) = omega (arith, below) in (
      digit_written (13 - c.loop-place._place) (13 - (c.loop-place._place + 1)) _ _ _ c.loop-place.left c.args.fraction next c.if-left-eq0.false
          c.loop-place.invariant.0 c.in_ok-write_digit.ensures,
      omega arith,
    )

pub returns : goal.returns
returns c =
    let a = c.loop-place-test.false in
    let b = c.loop-place.auto._place-end in
    end_written (13 - c.loop-place._place) _ _ c.loop-place.left c.args.fraction (omega (arith, a, b)) c.loop-place.invariant.0
