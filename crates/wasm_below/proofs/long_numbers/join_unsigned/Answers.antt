use Rattle.std.proofs.Common.{◌*◌, ◌^◌, ap, arith}
use Rattle.wasm_below.proofs.Septets.{unsigned_fits}
use Rattle.wasm_below.proofs.long_numbers.join_unsigned.Goals as goal

pub overflow_add-result : goal.overflow_add-result
overflow_add-result c =
    let f = unsigned_fits c.args.low c.args.shift c.args.last c.requires.shift c.requires.low c.requires.fits in
    omega (arith, f, ap (λ x. x * 2 ^ c.args.shift) c.from.ensures)

pub returns : goal.returns
returns c =
    let f = unsigned_fits c.args.low c.args.shift c.args.last c.requires.shift c.requires.low c.requires.fits in
    omega (arith, f.0, ap (λ x. x * 2 ^ c.args.shift) c.from.ensures)
