-- Writing the index of a continuation's type.
use Rattle.std.proofs.Common.{◌≡◌, ℕ, ◌≤◌, ◌<◌, Bool, true, false, List, ◌++◌, refl, sym, ap, ◌∙◌, ℤ, pos, arith}
use Rattle.std.proofs.lemmas.Bool.{le-leb, leb-true}
use Rattle.std.proofs.lemmas.Int.{ints}
use Rattle.std.specs.Prelude.{negsuc, nat_abs}
use Rattle.wasm_below.specs.Number.{FitsWidth}
use Rattle.wasm_below.specs.Reference.{max_type_index}
use Rattle.wasm_encode_numbers.specs.Shortest.{signed_bytes}
use Rattle.wasm_encode_numbers.proofs.Written.{signed_written}
use Rattle.wasm_types.specs.declared.functions.ContType.{ContType}
use Rattle.wasm_types.specs.Types.{is_natural, cont_index, cont_type}
use Rattle.wasm_write_grammars.specs.Writing.{Writes, HasNone}
use Rattle.wasm_write_grammars.proofs.Owing.{Only, owes, wrote, meets, paid, paid_in, of_part}

natural_is : (z : ℤ) → is_natural z ≡ true → z ≡ pos (nat_abs z)
natural_is (pos n) e = refl
natural_is (negsuc n) e = absurd (cc e)

fits_33 : (n : ℕ) → n ≤ 1048575 → FitsWidth 33 (pos n)
fits_33 n le = (omega (arith, ints), omega (arith, ints))

pub cont_written : (x : ContType) (old new : List ℕ) → x.0 ≤ max_type_index → new ≡ old ++ signed_bytes (pos x.0) → Writes cont_type x old new
cont_written x old new le e =
    let number = wrote (owes cont_type x old) (pos x.0)
    (λ z place at first after p (nat, (small, (n, same))). natural_is z nat ∙ ap pos (sym (ap (λ (k : ContType). k.0) same)))
    (of_part (signed_written 33 (pos x.0) old new (omega arith) (omega arith) (fits_33 x.0 le) e)) in
    paid_in number (paid (meets (meets (owes (cont_index (pos x.0)) x new) refl) (le-leb x.0 max_type_index le)) refl)

pub cont_lacks : (x : ContType) → max_type_index < x.0 → HasNone cont_type x
cont_lacks x high place text (first, after, z, e, p, (nat, (small, (n, same)))) =
    let le = leb-true (nat_abs z) max_type_index small in
    let is = ap (λ (k : ContType). k.0) same in
    omega (arith, high, le, is)
