use Rattle.std.proofs.Common.{ap, ◌∙◌, ◌++◌, arith}
use Rattle.wasm_encode_numbers.specs.Shortest.{unsigned_bytes}
use Rattle.wasm_encode_numbers.proofs.Written.{unsigned_written}
use Rattle.wasm_write_grammars.proofs.Owing.{of_part}
use Rattle.wasm_write_grammars.proofs.parts.append_u64.Goals as goal

pub returns-in-Ok : goal.returns-in-Ok
returns-in-Ok c =
    let whole = c.write_u64.ensures.bytes ∙ ap (λ z. z ++ unsigned_bytes c.args.number) c.reserve.ensures.items in
    of_part (unsigned_written 64 c.args.number _ _ (omega arith) (let r = c.ranges.number.fits in omega (arith, r)) whole)
