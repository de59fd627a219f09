use Rattle.std.proofs.Common.{◌++◌, ap, ◌∙◌}
use Rattle.wasm_encode_numbers.proofs.Written.{index_bytes}
use Rattle.wasm_encode_view.proofs.numbers.write_index.Goals as goal

pub returns-clause-bytes : goal.returns-clause-bytes
returns-clause-bytes c =
    c.write_with_sign.ensures.bytes ∙ ap (λ text. c.args.out.now.items ++ text) (index_bytes c.args.index)
