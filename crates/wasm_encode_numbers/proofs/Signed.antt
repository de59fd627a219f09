-- The shortest encodings of numbers with a sign: they are encodings, and none is shorter.
use Rattle.std.proofs.Common.{◌≡◌, ℕ, zero, suc, ◌+◌, ◌-◌, ◌*◌, ◌/◌, ◌%◌, ◌<◌, ◌≤◌, ◌^◌, Bool, true, false, List, [], ◌∷◌, ◌++◌, length, cond, sym, ap, subst, ◌∙◌, append_assoc, arith, refl, inl, inr, ℤ, pos, ◌+ℤ◌, ◌-ℤ◌, ◌*ℤ◌, neg_ℤ, ◌≤ℤ◌, ◌<ℤ◌}
use lib.IntN.{negsuc}
use Rattle.std.proofs.lemmas.Bool.{cases_lt, le-ltb, lt-ltb}
use Rattle.std.proofs.lemmas.Int.{ints}
use Rattle.std.proofs.lemmas.Nat.{pow-add, div-add-mod', mod_below, div_below}
use Rattle.wasm_below.specs.Number.{EncodesSigned, FitsWidth, last_value, with_sign}
use Rattle.wasm_encode_numbers.specs.Shortest.{complemented, signed_septets, signed_number, signed_bytes}
use Rattle.wasm_encode_numbers.proofs.Unsigned.{power_le}

-- Numbers below this fit in `more` septets and a last one.
abbrev pub half_limit : ℕ → ℕ
half_limit zero = 64
half_limit (suc more) = 128 * half_limit more

pub last_signed : (negative : Bool) (more n : ℕ) → n < 64 → signed_septets negative more n ≡ complemented negative n ∷ []
last_signed negative zero n lt = refl
last_signed negative (suc more) n lt =
    ap (λ b. cond b (complemented negative n ∷ []) ((complemented negative (n % 128) + 128) ∷ signed_septets negative more (n / 128))) (lt-ltb n 64 lt)

pub next_signed : (negative : Bool) (more n : ℕ) → 64 ≤ n →
    signed_septets negative (suc more) n ≡ (complemented negative (n % 128) + 128) ∷ signed_septets negative more (n / 128)
next_signed negative more n le =
    ap (λ b. cond b (complemented negative n ∷ []) ((complemented negative (n % 128) + 128) ∷ signed_septets negative more (n / 128))) (le-ltb n 64 le)

low_value : (c : ℕ) → c < 64 → last_value c ≡ pos c
low_value c lt = ap (λ b. with_sign b c 128) (lt-ltb c 64 lt)

high_value : (c : ℕ) → 64 ≤ c → last_value c ≡ pos c -ℤ pos 128
high_value c le = ap (λ b. with_sign b c 128) (le-ltb c 64 le)

complemented_small : (negative : Bool) (n : ℕ) → n < 128 → complemented negative n < 128
complemented_small true n lt = omega arith
complemented_small false n lt = lt

is_last : (negative : Bool) (n : ℕ) → n < 64 → signed_number negative n ≡ last_value (complemented negative n)
is_last true n lt = let h = high_value (127 - n) (omega arith) in omega (arith, ints, h)
is_last false n lt = let h = low_value n lt in sym h

fits_half : (negative : Bool) (n a : ℕ) → n < a → (neg_ℤ (pos a) ≤ℤ signed_number negative n) × (signed_number negative n <ℤ pos a)
fits_half true n a lt = (omega (arith, ints), omega (arith, ints))
fits_half false n a lt = (omega (arith, ints), omega (arith, ints))

below_half : (negative : Bool) (n a : ℕ) → (neg_ℤ (pos a) ≤ℤ signed_number negative n) × (signed_number negative n <ℤ pos a) → n < a
below_half true n a h = omega (arith, ints, h.0)
below_half false n a h = omega (arith, ints, h.1)

signed_wide : (width n : ℕ) → 64 ≤ n → n < 2 ^ (width - 1) → 7 < width
signed_wide width n le lt =
    elim (cases_lt 7 width) [
      | inl h ↦ h
      | inr h ↦ (let p = power_le (width - 1) 6 (omega arith) in absurd (omega (arith, p)))
    ]

high_half : (width n : ℕ) → 7 < width → n < 2 ^ (width - 1) → n / 128 < 2 ^ (width - 7 - 1)
high_half width n w lt =
    let e : (width - 7 - 1) + 7 ≡ width - 1 = omega arith in
    let s : 2 ^ (width - 1) ≡ 2 ^ (width - 7 - 1) * 128 = ap (λ k. 2 ^ k) (sym e) ∙ pow-add 2 (width - 7 - 1) 7 in
    div_below n 128 (2 ^ (width - 7 - 1)) (omega arith) (subst (λ x. n < x) s lt)

splits : (negative : Bool) (n q r : ℕ) → r < 128 → q * 128 + r ≡ n →
    signed_number negative n ≡ (pos 128 *ℤ signed_number negative q) +ℤ pos (complemented negative r + 128 - 128)
splits true n q r lt e = omega (arith, ints, e)
splits false n q r lt e = omega (arith, ints, e)

joins : (negative : Bool) (width n : ℕ) (text : List ℕ) → 7 < width → EncodesSigned (width - 7) text (signed_number negative (n / 128)) →
    EncodesSigned width ((complemented negative (n % 128) + 128) ∷ text) (signed_number negative n)
joins negative width n [] w p = absurd p
joins negative width n (d ∷ text) w p =
    let m = mod_below n 128 (omega arith) in
    let e = div-add-mod' n 128 in
    let t = complemented_small negative (n % 128) m in
    (w, omega arith, omega (arith, t), signed_number negative (n / 128), splits negative n (n / 128) (n % 128) m e, p)

pub septets_encode : (negative : Bool) (more width n : ℕ) → n < half_limit more → n < 2 ^ (width - 1) →
    EncodesSigned width (signed_septets negative more n) (signed_number negative n)
septets_encode negative zero width n small lt = (complemented_small negative n (omega arith), is_last negative n small, fits_half negative n (2 ^ (width - 1)) lt)
septets_encode negative (suc more) width n small lt =
    elim (cases_lt n 64) [
      | inl one ↦ subst (λ text. EncodesSigned width text (signed_number negative n)) (sym (last_signed negative (suc more) n one))
          (complemented_small negative n (omega arith), is_last negative n one, fits_half negative n (2 ^ (width - 1)) lt)
      | inr le ↦ (
          let w = signed_wide width n le lt in
          let below : n / 128 < half_limit more = div_below n 128 (half_limit more) (omega arith) (omega (arith, small)) in
          subst (λ text. EncodesSigned width text (signed_number negative n)) (sym (next_signed negative more n le))
          (joins negative width n (signed_septets negative more (n / 128)) w
          (septets_encode negative more (width - 7) (n / 128) below (high_half width n w lt)))
          )
    ]

last_is_small : (negative : Bool) (n c : ℕ) → c < 128 → signed_number negative n ≡ last_value c → n < 64
last_is_small true n c lt e =
    elim (cases_lt c 64) [
      | inl low ↦ (let h = low_value c low in absurd (omega (arith, ints, h, e)))
      | inr high ↦ (let h = high_value c high in omega (arith, ints, h, e))
    ]
last_is_small false n c lt e =
    elim (cases_lt c 64) [
      | inl low ↦ (let h = low_value c low in omega (arith, ints, h, e))
      | inr high ↦ (let h = high_value c high in absurd (omega (arith, ints, h, e)))
    ]

one_split : (negative : Bool) (n q r c : ℕ) (high : ℤ) → r < 128 → q * 128 + r ≡ n → 128 ≤ c → c < 256 →
    signed_number negative n ≡ (pos 128 *ℤ high) +ℤ pos (c - 128) → high ≡ signed_number negative q
one_split true n q r c high lt e le less p = omega (arith, ints, e, p)
one_split false n q r c high lt e le less p = omega (arith, ints, e, p)

pub septets_shortest : (negative : Bool) (text : List ℕ) (more width n : ℕ) → EncodesSigned width text (signed_number negative n) →
    length (signed_septets negative more n) ≤ length text
septets_shortest negative [] more width n p = absurd p
septets_shortest negative (c ∷ text) zero width n p = omega arith
septets_shortest negative (c ∷ []) (suc more) width n p =
    let e = ap length (last_signed negative (suc more) n (last_is_small negative n c p.0 p.1)) in
    omega (arith, e)
septets_shortest negative (c ∷ d ∷ text) (suc more) width n (w, le, lt, high, sum, p) =
    elim (cases_lt n 64) [
      | inl one ↦ (let e = ap length (last_signed negative (suc more) n one) in omega (arith, e))
      | inr big ↦ (
          let e = ap length (next_signed negative more n big) in
          let m = mod_below n 128 (omega arith) in
          let a = div-add-mod' n 128 in
          let same = one_split negative n (n / 128) (n % 128) c high m a le lt sum in
          let i = septets_shortest negative (d ∷ text) more (width - 7) (n / 128) (subst (EncodesSigned (width - 7) (d ∷ text)) same p) in
          omega (arith, e, i)
          )
    ]

pub signed_encodes : (width : ℕ) (n : ℤ) → 0 < width → width ≤ 64 → FitsWidth width n → EncodesSigned width (signed_bytes n) n
unfolding signed_bytes
signed_encodes width (pos n) some le fits =
    let lt = below_half false n (2 ^ (width - 1)) fits in
    let p = power_le (width - 1) 63 (omega arith) in
    septets_encode false 9 width n (omega (arith, p, lt)) lt
signed_encodes width (negsuc n) some le fits =
    let lt = below_half true n (2 ^ (width - 1)) fits in
    let p = power_le (width - 1) 63 (omega arith) in
    septets_encode true 9 width n (omega (arith, p, lt)) lt

pub signed_shortest : (n : ℤ) (width : ℕ) (other : List ℕ) → EncodesSigned width other n → length (signed_bytes n) ≤ length other
unfolding signed_bytes
signed_shortest (pos n) width other p = septets_shortest false other 9 width n p
signed_shortest (negsuc n) width other p = septets_shortest true other 9 width n p

pub bytes_of_sign : (negative : Bool) (n : ℕ) (value : ℤ) → signed_number negative n ≡ value → signed_septets negative 9 n ≡ signed_bytes value
unfolding signed_bytes
bytes_of_sign true n value e = subst (λ v. signed_septets true 9 n ≡ signed_bytes v) e refl
bytes_of_sign false n value e = subst (λ v. signed_septets false 9 n ≡ signed_bytes v) e refl

-- ---- the loop that writes them

pub signed_end : (negative : Bool) (more rest : ℕ) (old now all : List ℕ) → rest < 64 → old ++ signed_septets negative more rest ≡ all →
    now ≡ old ++ complemented negative rest ∷ [] → now ≡ all
signed_end negative more rest old now all lt h wrote = wrote ∙ ap (λ text. old ++ text) (sym (last_signed negative more rest lt)) ∙ h

pub signed_step : (negative : Bool) (more fewer rest : ℕ) (old now all : List ℕ) → more ≡ suc fewer → 64 ≤ rest → old ++ signed_septets negative more rest ≡ all →
    now ≡ old ++ (complemented negative (rest % 128) + 128) ∷ [] → now ++ signed_septets negative fewer (rest / 128) ≡ all
signed_step negative more fewer rest old now all is le h wrote =
    ap (λ text. text ++ signed_septets negative fewer (rest / 128)) wrote ∙
    append_assoc old ((complemented negative (rest % 128) + 128) ∷ []) (signed_septets negative fewer (rest / 128)) ∙
    ap (λ text. old ++ text) (sym (next_signed negative fewer rest le)) ∙ ap (λ k. old ++ signed_septets negative k rest) (sym is) ∙ h

pub half_step : (more fewer rest : ℕ) → more ≡ suc fewer → rest < half_limit more → rest / 128 < half_limit fewer
half_step more fewer rest is small =
    let r = subst (λ k. rest < half_limit k) is small in
    div_below rest 128 (half_limit fewer) (omega arith) (omega (arith, r))
