use Rattle.std.proofs.Common.{◌-◌, ◌*◌, ◌+◌}
use Rattle.std.proofs.lemmas.Bool.{both_ways}
use Rattle.wasm_below.specs.Number.{EncodesUnsigned}
use Rattle.wasm_below.proofs.Numbers.{unsigned_below}
use Rattle.wasm_below.proofs.Septets.{unsigned_leb128}
use Rattle.wasm_below.proofs.NumbersAt.{no_septets, too_large, unsigned_found, low_of_septets, last_within, unsigned_over}
use Rattle.wasm_below.proofs.long_numbers.read_unsigned.Goals as goal

pub returns-in-Err-clause-refused : goal.returns-in-Err-clause-refused
returns-in-Err-clause-refused c = no_septets EncodesUnsigned (λ low high. 128 * high + low) unsigned_leb128 c.in-Err.refusal c.args.bits c.args.buffer.now
    c.args.start c.requires.low c.in-Err.ensures.refused

pub returns-then-not-fits_unsigned-clause-refused : goal.returns-then-not-fits_unsigned-clause-refused
returns-then-not-fits_unsigned-clause-refused c =
    let g = c.in-Ok.septets in
    let over = unsigned_over (c.args.bits - g.shift) g.last c.in-Ok.ensures.septets.small
    (λ lt. both_ways _ c.if-not-fits_unsigned.true (c.fits_unsigned.ensures.1 lt)) in
    too_large EncodesUnsigned (λ low high. 128 * high + low) unsigned_leb128 c.args.bits c.args.buffer.now c.args.start g c.in-Ok.ensures.septets over.0 over.1

pub join_unsigned-requires-clause-low : goal.join_unsigned-requires-clause-low
join_unsigned-requires-clause-low c = low_of_septets c.args.bits c.args.buffer.now c.args.start c.in-Ok.septets c.in-Ok.ensures.septets

pub join_unsigned-requires-clause-fits : goal.join_unsigned-requires-clause-fits
join_unsigned-requires-clause-fits c = last_within c.args.bits c.args.buffer.now c.args.start c.in-Ok.septets c.in-Ok.ensures.septets c.requires.high
    (c.fits_unsigned.ensures.0 c.if-not-fits_unsigned.false)

pub returns-clause-number : goal.returns-clause-number
returns-clause-number c = unsigned_found c.args.bits c.args.buffer.now c.args.start c.join_unsigned.result c.in-Ok.septets c.in-Ok.ensures.septets
    (c.fits_unsigned.ensures.0 c.if-not-fits_unsigned.false) c.join_unsigned.ensures

pub returns-clause-within : goal.returns-clause-within
returns-clause-within c =
    let n = returns-clause-number c in
    unsigned_below n.0 c.args.bits c.join_unsigned.result n.1
