use Rattle.std.proofs.Common.{◌≡◌, ℕ, ◌+◌, ◌-◌, ◌*◌, ◌%◌, ◌<◌, ◌≤◌, ◌^◌, Bool, true, false, refl, sym, ap, ◌∙◌, arith, ℤ, pos, ◌+ℤ◌, neg_ℤ, ◌≤ℤ◌, ◌<ℤ◌, w64, to_z, of_z, zero, suc, negsuc, mod-eq_of_lt}
use Rattle.std.specs.Prelude.{ltb, ◌-ℤ◌}
use Rattle.std.proofs.lemmas.Int.{ints, to_z-of_z}
use Rattle.std.proofs.lemmas.Nat.{pow-add, pow_pos, mul-le, mod_low}
use mir.Val.{SFits}
use Rattle.wasm_below.specs.Number.{FitsWidth, last_value, with_sign}
use Rattle.wasm_below.specs.Leb128.{signed_value}

negative_up : (a m : ℕ) → 0 < a → 0 < m → a * m ≤ 2 ^ 63 → a ≤ 128 → ((2 ^ 64 - a) * m) % 2 ^ 64 ≡ 2 ^ 64 - a * m
negative_up a m some more le few =
    let whole : (2 ^ 64 - a) * m + a * m ≡ 2 ^ 64 * m = go (2 ^ 64 - a) (omega arith) in
    let product : 0 < a * m = mul-le 1 1 a m (omega arith) (omega arith) in
    let split : (2 ^ 64 - a) * m ≡ (m - 1) * 2 ^ 64 + (2 ^ 64 - a * m) = omega (arith, whole, product) in
    ap (λ k. k % 2 ^ 64) split ∙ mod_low (m - 1) 64 (2 ^ 64 - a * m) (omega arith)
  where
    go : (k : ℕ) → k + a ≡ 2 ^ 64 → k * m + a * m ≡ 2 ^ 64 * m
    go k e = omega (arith, ap (λ z. z * m) e)

negative_bits : (k n : ℕ) → 0 < k → k ≤ 2 ^ 63 → n ≡ 2 ^ 64 - k → to_z w64 n ≡ neg_ℤ (pos k)
negative_bits zero n some le e = absurd (omega arith)
negative_bits (suc j) n some le e = let fits : SFits w64 (negsuc j) = record { sfits = omega arith } in ap (to_z w64) e ∙ to_z-of_z w64 (negsuc j) fits

positive_up : (last m : ℕ) → last * m < 2 ^ 63 → to_z w64 ((last * m) % 2 ^ 64) ≡ pos (last * m)
positive_up last m lt = let e : (last * m) % 2 ^ 64 ≡ last * m = mod-eq_of_lt (omega arith) in ap (to_z w64) e ∙ omega (arith, ints)

of_negative : (a : ℕ) → 0 < a → of_z w64 (neg_ℤ (pos a)) ≡ 2 ^ 64 - a
of_negative zero some = absurd (omega arith)
of_negative (suc j) some = refl

within_64 : (m p : ℕ) → p * m ≡ 2 ^ 63 → (a : ℕ) → a ≤ p → a * m ≤ 2 ^ 63
within_64 m p room a le = let h = mul-le a m p m le (omega arith) in omega (arith, h, room)

parts_of : (m k last : ℕ) → k + last ≡ 128 → k * m + last * m ≡ 128 * m
parts_of m k last e = omega (arith, ap (λ z. z * m) e)

joined_by : (low m p last : ℕ) (high : ℤ) → p * m ≡ 2 ^ 63 → 0 < p → low < m → last < 128 → (t : Bool) →
    (neg_ℤ (pos p) ≤ℤ with_sign t last 128) × (with_sign t last 128 <ℤ pos p) →
    high ≡ with_sign t last 128 →
    (to_z w64 low +ℤ to_z w64 ((of_z w64 high * m) % 2 ^ 64) ≡ with_sign t (low + last * m) (128 * m)) ×
    SFits w64 (with_sign t (low + last * m) (128 * m))
joined_by low m p last high room some lt small true f e =
    let up : (last + 1) * m ≤ 2 ^ 63 = within_64 m p room (last + 1) (omega (arith, ints, f.1)) in
    let low_is : to_z w64 low ≡ pos low = omega (arith, ints, up) in
    let moved : to_z w64 ((of_z w64 high * m) % 2 ^ 64) ≡ pos (last * m) = ap (λ (z : ℤ). to_z w64 ((of_z w64 z * m) % 2 ^ 64)) e ∙
    positive_up last m (omega (arith, lt, up)) in
    (omega (arith, ints, moved, low_is), record { sfits = omega (arith, up) })
joined_by low m p last high room some lt small false f e =
    let one : 1 * m ≤ 2 ^ 63 = within_64 m p room 1 some in
    let low_is : to_z w64 low ≡ pos low = omega (arith, ints, one) in
    let is : high ≡ neg_ℤ (pos (128 - last)) = omega (arith, ints, e) in
    let down : (128 - last) * m ≤ 2 ^ 63 = within_64 m p room (128 - last) (omega (arith, ints, f.0)) in
    let bits : of_z w64 high ≡ 2 ^ 64 - (128 - last) = ap (of_z w64) is ∙ of_negative (128 - last) (omega arith) in
    let turned : (of_z w64 high * m) % 2 ^ 64 ≡ 2 ^ 64 - (128 - last) * m = ap (λ k. (k * m) % 2 ^ 64) bits ∙
    negative_up (128 - last) m (omega arith) (omega arith) down (omega arith) in
    let some_down : 0 < (128 - last) * m = mul-le 1 1 (128 - last) m (omega arith) (omega arith) in
    let moved : to_z w64 ((of_z w64 high * m) % 2 ^ 64) ≡ neg_ℤ (pos ((128 - last) * m)) =
    negative_bits ((128 - last) * m) ((of_z w64 high * m) % 2 ^ 64) some_down down turned in
    let whole : (128 - last) * m + last * m ≡ 128 * m = parts_of m (128 - last) last (omega arith) in (
      omega (arith, ints, moved, low_is, whole),
      negative_fits (pos (low + last * m) -ℤ pos (128 * m)) (omega (arith, ints, whole, down)) (omega (arith, ints, whole, some_down, lt)),
    )
  where
    negative_fits : (z : ℤ) → (neg_ℤ (pos (2 ^ 63)) ≤ℤ z) → z <ℤ pos (2 ^ 63) → SFits w64 z
    negative_fits (pos n) ge lt = record { sfits = omega (arith, ints, lt) }
    negative_fits (negsuc n) ge lt = record { sfits = omega (arith, ints, ge) }

pub joined_bits : (low shift last : ℕ) (high : ℤ) → shift < 64 → low < 2 ^ shift → last < 128 → FitsWidth (64 - shift) (last_value last) →
    high ≡ last_value last → (to_z w64 low +ℤ to_z w64 ((of_z w64 high * 2 ^ shift) % 2 ^ 64) ≡ signed_value low (2 ^ shift) last) ×
    SFits w64 (signed_value low (2 ^ shift) last)
joined_bits low shift last high few lt small fits same =
    let whole : 64 - shift - 1 + shift ≡ 63 = omega arith in
    let room : 2 ^ (64 - shift - 1) * 2 ^ shift ≡ 2 ^ 63 = sym (pow-add 2 (64 - shift - 1) shift) ∙ ap (λ k. 2 ^ k) whole in
    joined_by low (2 ^ shift) (2 ^ (64 - shift - 1)) last high room (pow_pos (64 - shift - 1)) lt small (ltb last 64) fits same
