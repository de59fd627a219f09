use Rattle.std.proofs.Common.{◌≡◌, ◌-◌, ◌+◌, ◌<◌, suc, refl, arith}
use Rattle.std.specs.List.{repeat}
use Rattle.wasm_text.proofs.Steps.{all_came, time_came}
use Rattle.wasm_text.proofs.rows.write_times.Goals as goal

pub loop-time-preserved : goal.loop-time-preserved
loop-time-preserved c =
    let below : c.loop-time._time < c.args.times = let a = c.loop-time-test.true in omega (arith, a) in
    let next : c.args.times - c.loop-time._time ≡ suc (c.args.times - (c.loop-time._time + 1)) = omega (arith, below) in
    time_came (c.args.times - c.loop-time._time) (c.args.times - (c.loop-time._time + 1)) _ _ _ _ next c.in_ok-push_str.ensures.bytes c.loop-time.invariant

pub returns : goal.returns
returns c =
    let a = c.loop-time-test.false in
    all_came (c.args.times - c.loop-time._time) (λ k. repeat k c.args.text.now) _ _ (omega (arith, a)) refl c.loop-time.invariant
