-- The shortest encodings of unsigned numbers: they are encodings, and none is shorter.
use Rattle.std.proofs.Common.{◌≡◌, ℕ, zero, suc, ◌+◌, ◌-◌, ◌*◌, ◌/◌, ◌%◌, ◌<◌, ◌≤◌, ◌^◌, List, [], ◌∷◌, ◌++◌, length, cond, sym, ap, subst, ◌∙◌, append_assoc, arith, refl, inl, inr}
use Rattle.std.proofs.lemmas.Bool.{cases_lt, le-ltb, lt-ltb}
use Rattle.std.proofs.lemmas.Nat.{pow-add, pow_pos, div-add-mod', mod_below, div_below}
use Rattle.wasm_below.specs.Number.{EncodesUnsigned}
use Rattle.wasm_encode_numbers.specs.Shortest.{unsigned_septets}

-- Numbers below this fit in `more` septets and a last one.
abbrev pub limit : ℕ → ℕ
limit zero = 128
limit (suc more) = 128 * limit more

pub last_septet : (more n : ℕ) → n < 128 → unsigned_septets more n ≡ n ∷ []
last_septet zero n lt = refl
last_septet (suc more) n lt = ap (λ b. cond b (n ∷ []) ((n % 128 + 128) ∷ unsigned_septets more (n / 128))) (lt-ltb n 128 lt)

pub next_septet : (more n : ℕ) → 128 ≤ n → unsigned_septets (suc more) n ≡ (n % 128 + 128) ∷ unsigned_septets more (n / 128)
next_septet more n le = ap (λ b. cond b (n ∷ []) ((n % 128 + 128) ∷ unsigned_septets more (n / 128))) (le-ltb n 128 le)

pub power_le : (i j : ℕ) → i ≤ j → 2 ^ i ≤ 2 ^ j
power_le i j le =
    let e : i + (j - i) ≡ j = omega arith in
    let s : 2 ^ j ≡ 2 ^ i * 2 ^ (j - i) = ap (λ k. 2 ^ k) (sym e) ∙ pow-add 2 i (j - i) in
    go (2 ^ i) (2 ^ (j - i)) (2 ^ j) (pow_pos (j - i)) s
  where
    go : (a m b : ℕ) → 0 < m → b ≡ a * m → a ≤ b
    go a m b h e = grind (arith, e)

pub wide : (width n : ℕ) → 128 ≤ n → n < 2 ^ width → 7 < width
wide width n le lt =
    elim (cases_lt 7 width) [
      | inl h ↦ h
      | inr h ↦ (let p = power_le width 7 h in absurd (omega (arith, p)))
    ]

pub high_below : (width n : ℕ) → 7 < width → n < 2 ^ width → n / 128 < 2 ^ (width - 7)
high_below width n w lt =
    let e : (width - 7) + 7 ≡ width = omega arith in
    let s : 2 ^ width ≡ 2 ^ (width - 7) * 128 = ap (λ k. 2 ^ k) (sym e) ∙ pow-add 2 (width - 7) 7 in
    div_below n 128 (2 ^ (width - 7)) (omega arith) (subst (λ x. n < x) s lt)

pub joins : (width n : ℕ) (text : List ℕ) → 7 < width → EncodesUnsigned (width - 7) text (n / 128) → EncodesUnsigned width ((n % 128 + 128) ∷ text) n
joins width n [] w p = absurd p
joins width n (d ∷ text) w p =
    let m = mod_below n 128 (omega arith) in
    let e = div-add-mod' n 128 in
    (w, omega arith, omega (arith, m), n / 128, omega (arith, e), p)

pub encodes : (more width n : ℕ) → n < limit more → n < 2 ^ width → EncodesUnsigned width (unsigned_septets more n) n
encodes zero width n small lt = (small, refl, lt)
encodes (suc more) width n small lt =
    elim (cases_lt n 128) [
      | inl one ↦ subst (λ text. EncodesUnsigned width text n) (sym (last_septet (suc more) n one)) (one, refl, lt)
      | inr le ↦ (
          let w = wide width n le lt in
          let below : n / 128 < limit more = div_below n 128 (limit more) (omega arith) (omega (arith, small)) in
          subst (λ text. EncodesUnsigned width text n) (sym (next_septet more n le))
          (joins width n (unsigned_septets more (n / 128)) w (encodes more (width - 7) (n / 128) below (high_below width n w lt)))
          )
    ]

pub shortest : (text : List ℕ) (more width n : ℕ) → EncodesUnsigned width text n → length (unsigned_septets more n) ≤ length text
shortest [] more width n p = absurd p
shortest (c ∷ text) zero width n p = omega arith
shortest (c ∷ []) (suc more) width n p =
    let e = ap length (last_septet (suc more) n (omega (arith, p.0, p.1))) in
    omega (arith, e)
shortest (c ∷ d ∷ text) (suc more) width n (w, le, lt, high, sum, p) =
    elim (cases_lt n 128) [
      | inl one ↦ (let e = ap length (last_septet (suc more) n one) in omega (arith, e))
      | inr big ↦ (
          let e = ap length (next_septet more n big) in
          let m = mod_below n 128 (omega arith) in
          let a = div-add-mod' n 128 in
          let same : high ≡ n / 128 = omega (arith, sum, m, a) in
          let h = shortest (d ∷ text) more (width - 7) high p in
          let i = subst (λ x. length (unsigned_septets more x) ≤ length (d ∷ text)) same h in
          omega (arith, e, i)
          )
    ]

-- ---- the loop that writes them

pub unsigned_end : (more rest : ℕ) (old now all : List ℕ) → rest < 128 → old ++ unsigned_septets more rest ≡ all → now ≡ old ++ rest ∷ [] → now ≡ all
unsigned_end more rest old now all lt h wrote = wrote ∙ ap (λ text. old ++ text) (sym (last_septet more rest lt)) ∙ h

pub unsigned_step : (more fewer rest : ℕ) (old now all : List ℕ) → more ≡ suc fewer → 128 ≤ rest → old ++ unsigned_septets more rest ≡ all →
    now ≡ old ++ (rest % 128 + 128) ∷ [] → now ++ unsigned_septets fewer (rest / 128) ≡ all
unsigned_step more fewer rest old now all is le h wrote =
    ap (λ text. text ++ unsigned_septets fewer (rest / 128)) wrote ∙ append_assoc old ((rest % 128 + 128) ∷ []) (unsigned_septets fewer (rest / 128)) ∙
    ap (λ text. old ++ text) (sym (next_septet fewer rest le)) ∙ ap (λ k. old ++ unsigned_septets k rest) (sym is) ∙ h

pub limit_step : (more fewer rest : ℕ) → more ≡ suc fewer → rest < limit more → rest / 128 < limit fewer
limit_step more fewer rest is small =
    let r = subst (λ k. rest < limit k) is small in
    div_below rest 128 (limit fewer) (omega arith) (omega (arith, r))

pub all_below_limit : (value : ℕ) → value < 2 ^ 64 → value < limit 9
all_below_limit value lt = omega (arith, lt)
