use Rattle.std.proofs.Common.{◌++◌, drop, ap, ◌∙◌}
use Rattle.wasm_encode_view.proofs.Puts.{written_parts}
use Rattle.wasm_encode_view.proofs.put.put_first.Goals as goal

pub returns : goal.returns
returns c =
    ap (λ list. list ++ drop c.min-len.result c.args.out.now) c.copy_from_slice.ensures.after ∙ written_parts c.args.bytes.now c.args.out.now c.min-len.result c.min-len.ensures
