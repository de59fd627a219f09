use Rattle.std.proofs.Common.{refl, ◌∙◌}
use Rattle.wasm_encode_view.proofs.Puts.{put_there, put_past}
use Rattle.wasm_encode_view.proofs.put.put_bytes.Goals as goal
use Rattle.wasm_encode_view.proofs.put.put_bytes.Goals.{then-at-out, else-at-out}

pub returns : goal.returns
returns c = (
  refl,
  λ before room place is. elim c.if-at-out.branch [
    | then-at-out w ↦ w.out-is ∙ put_there before c.args.bytes.now room c.args.out.now w.put_first.new.out c.args.at place is w.if-at-out.true w.put_first.ensures
    | else-at-out w ↦ w.out-is ∙ put_past before c.args.bytes.now room c.args.out.now c.args.at place is w.if-at-out.false
  ],
)
