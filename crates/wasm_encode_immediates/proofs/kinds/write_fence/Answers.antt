use Rattle.std.proofs.Common.{arith, ap, ◌∙◌, ◌++◌, ◌∷◌, []}
use Rattle.wasm_encode_immediates.proofs.ShortTexts.{not_false, fence_written, plain_fence, fence_fails}
use Rattle.wasm_encode_immediates.proofs.kinds.write_fence.Goals as goal

pub returns-then-contains-clause-written : goal.returns-then-contains-clause-written
returns-then-contains-clause-written c =
    let k = c.push_reserved.ensures.capacity in (
      fence_written c.args.features c.args.ordering _ _ (c.contains.ensures.0 c.if-contains.true)
          (c.push_reserved.ensures.items ∙ ap (λ b. c.args.out.now.items ++ b ∷ []) c.ordering_byte.ensures),
      omega (arith, k),
    )

pub returns-in-SeqCst-clause-written : goal.returns-in-SeqCst-clause-written
returns-in-SeqCst-clause-written c =
    let k = c.push_reserved-in-SeqCst.ensures.capacity in
    (plain_fence c.args.features c.args.ordering _ _ (λ h. not_false (c.contains.ensures.1 h) c.if-contains.false) c.in-SeqCst.is c.push_reserved-in-SeqCst.ensures.items, omega (arith, k))

pub returns-in-AcqRel-clause-written : goal.returns-in-AcqRel-clause-written
returns-in-AcqRel-clause-written c =
    (fence_fails c.args.features c.args.ordering _ (λ h. not_false (c.contains.ensures.1 h) c.if-contains.false) c.in-AcqRel.is, omega arith)
