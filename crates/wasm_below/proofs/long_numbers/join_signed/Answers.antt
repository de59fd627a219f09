use Rattle.std.proofs.Common.{◌^◌, sym, subst, ap, ◌∙◌, w64, to_z, of_z, ℤ}
use Rattle.std.proofs.lemmas.Int.{to_z-of_z}
use mir.Val.{SFits}
use Rattle.wasm_below.specs.Leb128.{signed_value}
use Rattle.wasm_below.proofs.SignedJoins.{joined_bits}
use Rattle.wasm_below.proofs.long_numbers.join_signed.Goals as goal

pub overflow_add-result : goal.overflow_add-result
overflow_add-result c =
    let j = joined_bits c.args.low c.args.shift c.args.last c.last_value.result c.requires.shift c.requires.low c.requires.last c.requires.fits
    c.last_value.ensures.value in
    subst (SFits w64) (sym j.0) j.1

pub returns : goal.returns
returns c =
    let j = joined_bits c.args.low c.args.shift c.args.last c.last_value.result c.requires.shift c.requires.low c.requires.last c.requires.fits
    c.last_value.ensures.value in
    ap (λ (z : ℤ). to_z w64 (of_z w64 z)) j.0 ∙ to_z-of_z w64 (signed_value c.args.low (2 ^ c.args.shift) c.args.last) j.1
