use Rattle.std.proofs.Common.{◌≡◌, ◌<◌, ◌-◌, ◌+◌, suc, arith, refl, subst}
use Rattle.wasm_encode_numbers.specs.Shortest.{unsigned_bytes}
use Rattle.wasm_encode_numbers.proofs.Unsigned.{unsigned_end, unsigned_step, limit_step, all_below_limit, limit}
use Rattle.wasm_encode_view.proofs.numbers.write_unsigned.Goals as goal

pub loop-septet-init : goal.loop-septet-init
unfolding unsigned_bytes
loop-septet-init c = record { written = refl; small = let r = c.ranges.value.fits in all_below_limit c.args.value (omega (arith, r)); len = omega arith }

pub returns-then-rest-lt128-clause-bytes : goal.returns-then-rest-lt128-clause-bytes
returns-then-rest-lt128-clause-bytes c =
    unsigned_end (9 - c.loop-septet._septet) c.loop-septet.rest _ _ _ c.if-rest-lt128.true c.loop-septet.invariant.written c.push.ensures.items

pub loop-septet-preserved : goal.loop-septet-preserved
loop-septet-preserved c =
    let below : c.loop-septet._septet < 9 = let a = c.loop-septet-test.true in omega (arith, a) in
    let next : 9 - c.loop-septet._septet ≡ suc (9 - (c.loop-septet._septet + 1)) = omega (arith, below) in
    let l = c.push-in-loop-septet.ensures.len in
    let m = c.loop-septet.invariant.len in
    record {
      written = unsigned_step (9 - c.loop-septet._septet) (9 - (c.loop-septet._septet + 1)) c.loop-septet.rest _ _ _ next c.if-rest-lt128.false
          c.loop-septet.invariant.written c.push-in-loop-septet.ensures.items;
      small = limit_step (9 - c.loop-septet._septet) (9 - (c.loop-septet._septet + 1)) c.loop-septet.rest next c.loop-septet.invariant.small;
      len = omega (arith, l, m);
    }

pub returns-clause-bytes : goal.returns-clause-bytes
returns-clause-bytes c =
    let a = c.loop-septet-test.false in
    let s = c.loop-septet.invariant.small in
    let zero_left : 9 - c.loop-septet._septet ≡ 0 = omega (arith, a) in
    unsigned_end (9 - c.loop-septet._septet) c.loop-septet.rest _ _ _ (subst (λ k. c.loop-septet.rest < limit k) zero_left s) c.loop-septet.invariant.written c.push-2.ensures.items
