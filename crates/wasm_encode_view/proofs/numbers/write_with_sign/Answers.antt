use Rattle.std.proofs.Common.{◌≡◌, ◌++◌, ◌<◌, ◌-◌, ◌+◌, ◌∷◌, [], suc, arith, ap, ◌∙◌, subst}
use Rattle.wasm_encode_numbers.proofs.Signed.{signed_step, signed_end, half_step, half_limit}
use Rattle.wasm_encode_view.proofs.numbers.write_with_sign.Goals as goal

pub returns-then-rest-lt64-clause-bytes : goal.returns-then-rest-lt64-clause-bytes
returns-then-rest-lt64-clause-bytes c =
    signed_end c.args.negative (9 - c.loop-septet._septet) c.loop-septet.rest _ _ _ c.if-rest-lt64.true c.loop-septet.invariant.written
    (c.push.ensures.items ∙ ap (λ low. c.loop-septet.out.items ++ low ∷ []) c.complemented.ensures.value)

pub loop-septet-preserved : goal.loop-septet-preserved
loop-septet-preserved c =
    let below : c.loop-septet._septet < 9 = let a = c.loop-septet-test.true in omega (arith, a) in
    let next : 9 - c.loop-septet._septet ≡ suc (9 - (c.loop-septet._septet + 1)) = omega (arith, below) in
    let l = c.push-in-loop-septet.ensures.len in
    let m = c.loop-septet.invariant.len in
    record {
      written = signed_step c.args.negative (9 - c.loop-septet._septet) (9 - (c.loop-septet._septet + 1)) c.loop-septet.rest _ _ _ next c.if-rest-lt64.false
          c.loop-septet.invariant.written (c.push-in-loop-septet.ensures.items ∙ ap (λ low. c.loop-septet.out.items ++ (low + 128) ∷ []) c.complemented-in-loop-septet.ensures.value);
      small = half_step (9 - c.loop-septet._septet) (9 - (c.loop-septet._septet + 1)) c.loop-septet.rest next c.loop-septet.invariant.small;
      len = omega (arith, l, m);
    }

pub returns-clause-bytes : goal.returns-clause-bytes
returns-clause-bytes c =
    let a = c.loop-septet-test.false in
    let s = c.loop-septet.invariant.small in
    let zero_left : 9 - c.loop-septet._septet ≡ 0 = omega (arith, a) in
    signed_end c.args.negative (9 - c.loop-septet._septet) c.loop-septet.rest _ _ _ (subst (λ k. c.loop-septet.rest < half_limit k) zero_left s) c.loop-septet.invariant.written
    (c.push-2.ensures.items ∙ ap (λ low. c.loop-septet.out.items ++ low ∷ []) c.complemented-2.ensures.value)
