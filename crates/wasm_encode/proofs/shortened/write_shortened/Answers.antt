use Rattle.std.proofs.Common.{subst, sym, ◌∙◌, arith, append-nil}
use Rattle.std.proofs.lemmas.List.{take_all}
use Rattle.wasm_imm.specs.Lists.{EncodesEach}
use Rattle.wasm_encode_numbers.specs.Appended.{Appends}
use Rattle.wasm_encode_immediates.proofs.ListTexts.{none_appended, one_more, moved}
use Rattle.wasm_encode_operators.proofs.Operators.{cut_off}
use Rattle.wasm_encode.specs.Shortened.{EncodesSame}
use Rattle.wasm_encode.proofs.Lists.{one_unwritable}
use Rattle.wasm_encode.proofs.Targets.{EncodesSamePlaced, all_shortened, each_encodable}
use Rattle.wasm_encode.proofs.shortened.write_shortened.Goals as goal

pub loop-op-init : goal.loop-op-init
loop-op-init c = record { each = none_appended (EncodesSamePlaced c.args.features) c.args.out.now.items; capacity = omega arith }

pub loop-op-preserved : goal.loop-op-preserved
loop-op-preserved c =
    let f = c.args.features in
    let item = c.loop-op-item.result in
    let k = c.in-Ok.ensures.kept in
    let l = c.loop-op.invariant.capacity in
    record {
      each = one_more (EncodesSamePlaced f) c.args.ops.now c.loop-op.op-index item _ _ _ c.loop-op-test.true c.loop-op-item.is c.loop-op.invariant.each
          (moved (EncodesSame f) (EncodesSamePlaced f) item.0 item _ _ (λ t p. p) (λ t p. p) c.in-Ok.ensures.written);
      capacity = omega (arith, k, l);
    }

pub returns-in-Err-clause-written : goal.returns-in-Err-clause-written
returns-in-Err-clause-written c =
    let each = each_encodable c.args.features _ _ c.loop-op.invariant.each.encodes in (
      c.truncate.ensures.items ∙ cut_off _ _ _ _ _ c.len-start.result (sym (c.len-start.ensures ∙ c.args.out.now.ok.0)) c.loop-op.invariant.each.appended (c.in-Err.ensures.written.0 ∙ sym (append-nil c.loop-op.out.items)),
      λ some. one_unwritable c.args.features c.args.ops.now c.loop-op.op-index c.loop-op-item.result c.in-Err.e each.0 c.loop-op-test.true c.loop-op-item.is
          each.1 (c.in-Err.ensures.written.1 some),
    )

pub returns-clause-written : goal.returns-clause-written
returns-clause-written c =
    let f = c.args.features in
    let done = c.loop-op-test.false in
    all_shortened f c.args.ops.now _ _
    (subst (λ z. Appends (EncodesEach (EncodesSamePlaced f)) z c.args.out.now.items c.loop-op.out.items) (take_all c.loop-op.op-index c.args.ops.now (omega (arith, done))) c.loop-op.invariant.each)
