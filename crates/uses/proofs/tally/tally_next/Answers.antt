use Rattle.std.proofs.lemmas.Result.{IfOk-weaker}
use Rattle.wasm_operators.specs.grammar.declared.frame_kind.FrameKind.TheVariants as frame
use Rattle.uses.proofs.Counted.{visited}
use Rattle.uses.proofs.tally.tally_next.Goals as goal

pub returns : goal.returns
returns c =
    let both = visited frame.Block c.visit_operator_simd.result c.args.reader.now c.visit_operator_simd.new.self c.args.tally.now c.visit_operator_simd.new.v c.visit_operator_simd.ensures in
    record {
      taken = IfOk-weaker c.visit_operator_simd.result _ _ (λ _ h. h.0) both;
      counted = IfOk-weaker c.visit_operator_simd.result _ _ (λ _ h. h.1) both;
    }
