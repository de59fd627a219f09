use Rattle.std.proofs.Common.{◌++◌, [], ap, ◌∙◌, arith}
use Rattle.wasm_encode_numbers.specs.Shortest.{unsigned_bytes}
use Rattle.wasm_encode_numbers.proofs.Written.{unsigned_written}
use Rattle.wasm_encode_view.proofs.local.write_number.Goals as goal

pub returns-clause-written : goal.returns-clause-written
returns-clause-written c =
    let lt = c.ranges.value.fits in
    unsigned_written 32 c.args.value [] _ (omega arith) (omega (arith, lt)) (c.write_unsigned.ensures.bytes ∙ ap (λ z. z ++ unsigned_bytes c.args.value) c.new-out.ensures)
