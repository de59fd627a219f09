use Rattle.std.proofs.Common.{◌≡◌, ◌≢◌, ℕ, zero, suc, ◌*◌, ◌/◌, ◌%◌, ◌^◌, false, List, [], ◌∷◌, ◌++◌, refl, ap, sym, ◌∙◌, cond, append_assoc, append-nil}
use Rattle.std.proofs.lemmas.Bool.{ne_eqb}
use Rattle.std.specs.Fmt.{digit_glyph}
use Rattle.wasm_text.specs.Floats.{fraction_digits}

pub none_left : (n : ℕ) → fraction_digits n 0 ≡ []
none_left zero = refl
none_left (suc n) = refl

some_left : (n : ℕ) (left : ℕ) → left ≢ 0 → fraction_digits (suc n) left ≡ digit_glyph false (left / 2 ^ 48) ∷ fraction_digits n (left % 2 ^ 48 * 16)
some_left n left some = ap (λ b. cond b [] (digit_glyph false (left / 2 ^ 48) ∷ fraction_digits n (left % 2 ^ 48 * 16))) (ne_eqb left 0 some)

pub all_written : (n : ℕ) (old new : List ℕ) (left fraction : ℕ) → left ≡ 0 → new ++ fraction_digits n left ≡ old ++ fraction_digits 13 fraction →
    new ≡ old ++ fraction_digits 13 fraction
all_written n old new left fraction is h = sym (append-nil new) ∙ ap (λ digits. new ++ digits) (sym (none_left n)) ∙ ap (λ l. new ++ fraction_digits n l) (sym is) ∙ h

pub digit_written : (n m : ℕ) (old now new : List ℕ) (left fraction : ℕ) → n ≡ suc m → left ≢ 0 → now ++ fraction_digits n left ≡ old ++ fraction_digits 13 fraction →
    new ≡ now ++ digit_glyph false (left / 2 ^ 48) ∷ [] → new ++ fraction_digits m (left % 2 ^ 48 * 16) ≡ old ++ fraction_digits 13 fraction
digit_written n m old now new left fraction is some h wrote =
    ap (λ text. text ++ fraction_digits m (left % 2 ^ 48 * 16)) wrote ∙
    append_assoc now (digit_glyph false (left / 2 ^ 48) ∷ []) (fraction_digits m (left % 2 ^ 48 * 16)) ∙
    ap (λ digits. now ++ digits) (sym (some_left m left some)) ∙ ap (λ k. now ++ fraction_digits k left) (sym is) ∙ h

pub end_written : (n : ℕ) (old new : List ℕ) (left fraction : ℕ) → n ≡ 0 → new ++ fraction_digits n left ≡ old ++ fraction_digits 13 fraction →
    new ≡ old ++ fraction_digits 13 fraction
end_written n old new left fraction is h = sym (append-nil new) ∙ ap (λ k. new ++ fraction_digits k left) (sym is) ∙ h
