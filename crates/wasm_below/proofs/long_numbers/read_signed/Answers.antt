use Rattle.std.proofs.Common.{◌-◌, arith, ◌*ℤ◌, ◌+ℤ◌, pos, rules, w64, to_z, of_z, ◌∙◌, subst, sym}
use Rattle.std.proofs.lemmas.Bool.{both_ways}
use Rattle.std.proofs.lemmas.Int.{to_z-of_z}
use mir.Val.{SFits}
use Rattle.wasm_below.specs.Number.{EncodesSigned, FitsWidth, last_value}
use Rattle.wasm_below.proofs.SignedNumbers.{fits_more, signed_fits}
use Rattle.wasm_below.proofs.Septets.{signed_leb128}
use Rattle.wasm_below.proofs.NumbersAt.{no_septets, too_large, signed_found, low_of_septets, signed_over}
use Rattle.wasm_below.proofs.long_numbers.read_signed.Goals as goal

pub returns-in-Err-clause-refused : goal.returns-in-Err-clause-refused
returns-in-Err-clause-refused c = no_septets EncodesSigned (λ low high. (pos 128 *ℤ high) +ℤ pos low) signed_leb128 c.in-Err.refusal c.args.bits
    c.args.buffer.now c.args.start c.requires.low c.in-Err.ensures.refused

pub returns-then-not-fits_signed-clause-refused : goal.returns-then-not-fits_signed-clause-refused
returns-then-not-fits_signed-clause-refused c =
    let g = c.in-Ok.septets in
    let fits : SFits w64 c.last_value.result = search rules in
    let same = to_z-of_z w64 c.last_value.result fits ∙ c.last_value.ensures.value in
    let seven = subst (FitsWidth 7) c.last_value.ensures.value c.last_value.ensures.small in
    let over = signed_over (c.args.bits - g.shift) g.last c.in-Ok.ensures.septets.small seven
    (λ w. both_ways _ c.if-not-fits_signed.true (c.fits_signed.ensures.1 (subst (FitsWidth (c.args.bits - g.shift)) (sym same) w))) in
    too_large EncodesSigned (λ low high. (pos 128 *ℤ high) +ℤ pos low) signed_leb128 c.args.bits c.args.buffer.now c.args.start g c.in-Ok.ensures.septets
    over.0 over.1

pub join_signed-requires-clause-low : goal.join_signed-requires-clause-low
join_signed-requires-clause-low c = low_of_septets c.args.bits c.args.buffer.now c.args.start c.in-Ok.septets c.in-Ok.ensures.septets

pub join_signed-requires-clause-fits : goal.join_signed-requires-clause-fits
join_signed-requires-clause-fits c =
    let g = c.in-Ok.septets in
    let fits : SFits w64 c.last_value.result = search rules in
    let same = to_z-of_z w64 c.last_value.result fits ∙ c.last_value.ensures.value in
    let w = subst (FitsWidth (c.args.bits - g.shift)) same (c.fits_signed.ensures.0 c.if-not-fits_signed.false) in
    fits_more (c.args.bits - g.shift) (64 - g.shift) (last_value g.last) (omega (arith, c.requires.high)) w

pub returns-clause-number : goal.returns-clause-number
returns-clause-number c =
    let g = c.in-Ok.septets in
    let fits : SFits w64 c.last_value.result = search rules in
    let same = to_z-of_z w64 c.last_value.result fits ∙ c.last_value.ensures.value in
    let w = subst (FitsWidth (c.args.bits - g.shift)) same (c.fits_signed.ensures.0 c.if-not-fits_signed.false) in
    let all : SFits w64 c.join_signed.result = search rules in
    let value = to_z-of_z w64 c.join_signed.result all ∙ c.join_signed.ensures in
    signed_found c.args.bits c.args.buffer.now c.args.start (to_z w64 (of_z w64 c.join_signed.result)) g c.in-Ok.ensures.septets w value

pub returns-clause-within : goal.returns-clause-within
returns-clause-within c =
    let n = returns-clause-number c in
    signed_fits n.0 c.args.bits (to_z w64 (of_z w64 c.join_signed.result)) n.1
