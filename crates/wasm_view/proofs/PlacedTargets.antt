use Rattle.std.proofs.Common.{◌≡◌, ℕ, ◌+◌, ◌<◌, ◌^◌, List, [], ◌∷◌, ◌++◌, length, drop, sym, ap, ◌∙◌, append_assoc, append-nil, length-append, arith}
use Rattle.wasm_view.specs.Lists.{written, PlacesMembers}

pub fits_below : (all seen old left : List ℕ) (label index count : ℕ) → old ≡ label ∷ left → all ≡ seen ++ old → index ≡ length seen → count ≡ length all →
    count < 2 ^ 32 → index + 1 < 2 ^ 64
fits_below all seen old left label index count is parts at n few =
    omega (arith, at, n, few, ap length parts, ap length is, length-append seen old)

pub one_fewer : (all seen old left : List ℕ) (label : ℕ) → old ≡ label ∷ left → all ≡ seen ++ old → all ≡ (seen ++ label ∷ []) ++ left
one_fewer all seen old left label is parts = parts ∙ ap (λ list. seen ++ list) is ∙ sym (append_assoc seen (label ∷ []) left)

pub one_further : (seen : List ℕ) (label index : ℕ) → index ≡ length seen → index + 1 ≡ length (seen ++ label ∷ [])
one_further seen label index at = omega (arith, at, length-append seen (label ∷ []))

pub none_left : (all seen old base new : List ℕ) (count from : ℕ) → old ≡ [] → all ≡ seen ++ old → count ≡ length all →
    new ≡ written (drop from seen) base → PlacesMembers all from base count new
none_left all seen old base new count from end parts n placed =
    let whole : seen ≡ all = sym (append-nil seen) ∙ ap (λ list. seen ++ list) (sym end) ∙ sym parts in
    (n, placed ∙ ap (λ list. written (drop from list) base) whole)
