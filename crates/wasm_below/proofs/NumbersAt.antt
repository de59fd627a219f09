use Rattle.std.proofs.Common.{◌≡◌, ℕ, ◌+◌, ◌-◌, ◌*◌, ◌/◌, ◌<◌, ◌≤◌, ◌^◌, List, [], ◌∷◌, ◌++◌, length, drop, get_or, refl, sym, subst, ap, ◌∙◌, append_assoc, length-append, length-drop, arith, inl, inr, ◌⊎◌, ℤ, pos, ◌+ℤ◌, ◌*ℤ◌}
use Rattle.std.specs.Prelude.{slice_index}
use Rattle.std.proofs.lemmas.List.{get_or-drop, append-nil}
use Rattle.std.proofs.Math.Nat.{pow-le-pow_right}
use Rattle.std.proofs.lemmas.Bool.{cases_lt}
use Rattle.wasm_below.specs.declared.long_numbers.Septets.{Septets}
use Rattle.wasm_below.specs.declared.long_numbers.NumberRefusal.{NumberRefusal}
use Rattle.wasm_below.specs.declared.long_numbers.NumberRefusal.TheVariants as refusal
use Rattle.wasm_below.specs.Leb128.{AllGoOn, low_bits, signed_value, OccursAt, IsSeptets, RefusesSeptets, NumberAt, NeverBegins, NoNumber}
use Rattle.wasm_below.specs.Number.{EncodesUnsigned, EncodesSigned, FitsWidth, last_value}
use Rattle.wasm_below.specs.Source.{NoPrefix}
use Rattle.wasm_below.proofs.Numbers.{wide_fits}
use Rattle.wasm_below.proofs.SignedNumbers.{narrow, signed_large}
use Rattle.wasm_below.proofs.Septets.{IsLeb128, joined, continued, none_after, unsigned_leb128, signed_leb128, unsigned_joined, signed_joined, low_below, occurs_more}

byte_after : (bytes text after : List ℕ) (c : ℕ) → bytes ≡ text ++ c ∷ after → slice_index bytes (length text) ≡ c
byte_after bytes [] after c e = ap (λ z. slice_index z 0) e
byte_after [] (d ∷ text) after c e = absurd (cc e)
byte_after (b ∷ bytes) (d ∷ text) after c e = byte_after bytes text after c (cc e)

pub last_byte : (buffer text after : List ℕ) (start c : ℕ) → drop start buffer ≡ text ++ c ∷ after →
    (start + length text < length buffer) × (slice_index buffer (start + length text) ≡ c)
last_byte buffer text after start c e =
    let whole : length buffer - start ≡ length text + length (c ∷ after) = sym (length-drop start buffer) ∙ ap length e ∙ length-append text (c ∷ after) in
    (omega arith, sym (get_or-drop start buffer (length text) 0) ∙ byte_after (drop start buffer) text after c e)

module _ {X : Type 0} (Encodes : ℕ → List ℕ → X → Type 0) (join : ℕ → X → X) (leb128 : IsLeb128 Encodes join) where
  pub never : (buffer text after : List ℕ) (start c width : ℕ) → drop start buffer ≡ text ++ c ∷ after → AllGoOn text →
      ((more : List ℕ) → NoPrefix (Encodes (width - 7 * length text)) (c ∷ more)) → NeverBegins (Encodes width) (drop start buffer)
  never buffer text after start c width e go none more =
      let same : drop start buffer ++ more ≡ text ++ c ∷ (after ++ more) = ap (λ z. z ++ more) e ∙ append_assoc text (c ∷ after) more in
      subst (NoPrefix (Encodes width)) (sym same) (none_after Encodes join leb128 text (c ∷ (after ++ more)) width go (none (after ++ more)))

  pub no_septets : (r : NumberRefusal) (width : ℕ) (buffer : List ℕ) (start : ℕ) → 0 < width → RefusesSeptets r width buffer start →
      NoNumber (Encodes width) r width buffer start
  no_septets refusal.EndOfData width buffer start some (go, few) = (
    omega (arith, length-drop start buffer),
    subst (NoPrefix (Encodes width)) (append-nil (drop start buffer))
        (none_after Encodes join leb128 (drop start buffer) [] width go (leb128.empty (width - 7 * length (drop start buffer)))),
  )
  no_septets refusal.TooLong width buffer start some (text, after, c, go, ge, many, e) =
      let last = last_byte buffer text after start c e in
      let at : slice_index buffer (start + (width - 1) / 7) ≡ c = ap (λ k. slice_index buffer (start + k)) (sym many) ∙ last.1 in (
        omega (arith, last.0),
        omega (arith, at),
        never buffer text after start c width e go (λ more. leb128.long (c ∷ more) more c (width - 7 * length text) refl ge (omega arith)),
      )
  no_septets refusal.TooLarge width buffer start some h = absurd h

  pub too_large : (width : ℕ) (buffer : List ℕ) (start : ℕ) (g : Septets) → IsSeptets buffer start width g → width - g.shift ≤ 7 →
      ((more : List ℕ) → NoPrefix (Encodes (width - g.shift)) (g.last ∷ more)) → NoNumber (Encodes width) refusal.TooLarge width buffer start
  too_large width buffer start g h narrow none =
      let e : drop start buffer ≡ h.text ++ g.last ∷ drop g.after buffer = h.occurs.parts ∙ append_assoc h.text (g.last ∷ []) (drop g.after buffer) in
      let last = last_byte buffer h.text (drop g.after buffer) start g.last e in
      let many : (width - 1) / 7 ≡ length h.text = omega (arith, h.shift, h.narrow) in
      let at : slice_index buffer (start + (width - 1) / 7) ≡ g.last = ap (λ k. slice_index buffer (start + k)) many ∙ last.1 in (
        omega (arith, last.0, many),
        omega (arith, at, h.small),
        never buffer h.text (drop g.after buffer) start g.last width e h.go_on
            (λ more. subst (λ k. NoPrefix (Encodes (width - k)) (g.last ∷ more)) h.shift (none more)),
      )

pub unsigned_found : (width : ℕ) (buffer : List ℕ) (start value : ℕ) (g : Septets) → IsSeptets buffer start width g → g.last < 2 ^ (width - g.shift) →
    value ≡ g.low + g.last * 2 ^ g.shift → NumberAt (EncodesUnsigned width) buffer start value g.after
unsigned_found width buffer start value g h fits e =
    let room : g.last < 2 ^ (width - 7 * length h.text) = subst (λ k. g.last < 2 ^ (width - k)) h.shift fits in
    let same : joined (λ low high. 128 * high + low) h.text g.last ≡ value = unsigned_joined h.text g.last ∙
    ap (λ k. low_bits h.text + g.last * 2 ^ k) (sym h.shift) ∙ ap (λ l. l + g.last * 2 ^ g.shift) (sym h.low) ∙ sym e in (
      h.text ++ g.last ∷ [],
      subst (EncodesUnsigned width (h.text ++ g.last ∷ [])) same
          (continued EncodesUnsigned (λ low high. 128 * high + low) unsigned_leb128 h.text width g.last g.last h.go_on (omega (
            arith,
            h.shift,
            h.narrow,
          )) (h.small, refl, room)),
      h.occurs,
    )

pub signed_found : (width : ℕ) (buffer : List ℕ) (start : ℕ) (value : ℤ) (g : Septets) → IsSeptets buffer start width g →
    FitsWidth (width - g.shift) (last_value g.last) → value ≡ signed_value g.low (2 ^ g.shift) g.last →
    NumberAt (EncodesSigned width) buffer start value g.after
signed_found width buffer start value g h fits e =
    let room : FitsWidth (width - 7 * length h.text) (last_value g.last) = subst (λ k. FitsWidth (width - k) (last_value g.last)) h.shift fits in
    let same : joined (λ low high. (pos 128 *ℤ high) +ℤ pos low) h.text (last_value g.last) ≡ value = signed_joined h.text g.last ∙
    ap (λ k. signed_value (low_bits h.text) (2 ^ k) g.last) (sym h.shift) ∙ ap (λ l. signed_value l (2 ^ g.shift) g.last) (sym h.low) ∙ sym e in (
      h.text ++ g.last ∷ [],
      subst (EncodesSigned width (h.text ++ g.last ∷ [])) same
          (continued EncodesSigned (λ low high. (pos 128 *ℤ high) +ℤ pos low) signed_leb128 h.text width g.last (last_value g.last) h.go_on (omega (
            arith,
            h.shift,
            h.narrow,
          )) (h.small, refl, room)),
      h.occurs,
    )

pub low_of_septets : (width : ℕ) (buffer : List ℕ) (start : ℕ) (g : Septets) → IsSeptets buffer start width g → g.low < 2 ^ g.shift
low_of_septets width buffer start g h = omega (arith, h.low, low_below h.text h.go_on, ap (λ k. 2 ^ k) h.shift)

pub last_within : (width : ℕ) (buffer : List ℕ) (start : ℕ) (g : Septets) → IsSeptets buffer start width g → width ≤ 64 → g.last < 2 ^ (width - g.shift) →
    g.last < 2 ^ (64 - g.shift)
last_within width buffer start g h wide lt =
    let le : width - g.shift ≤ 64 - g.shift = omega arith in
    let two : 0 < 2 = omega arith in
    let more : 2 ^ (width - g.shift) ≤ 2 ^ (64 - g.shift) = pow-le-pow_right two le in
    omega (arith, lt, more)

pub unsigned_over : (width last : ℕ) → last < 128 → (last < 2 ^ width → ⊥) → (width ≤ 7) × ((more : List ℕ) → NoPrefix (EncodesUnsigned width) (last ∷ more))
unsigned_over width last small over = (within (cases_lt 7 width), λ more text after x p e. none more text after x p e)
  where
    within : (7 < width) ⊎ (width ≤ 7) → width ≤ 7
    within (inl wide) = absurd (over (wide_fits last width small (omega arith)))
    within (inr le) = le

    none : (more : List ℕ) → NoPrefix (EncodesUnsigned width) (last ∷ more)
    none more [] after x p e = p
    none more (c ∷ []) after x p e = over (let h : c ≡ last = cc e in omega (arith, p.1, p.2))
    none more (c ∷ d ∷ text) after x p e = let h : c ≡ last = cc e in omega (arith, p.1)

pub signed_over : (width last : ℕ) → last < 128 → FitsWidth 7 (last_value last) → (FitsWidth width (last_value last) → ⊥) →
    (width ≤ 7) × ((more : List ℕ) → NoPrefix (EncodesSigned width) (last ∷ more))
signed_over width last small seven over =
    (narrow width (last_value last) seven over, λ more. signed_large (last ∷ more) more last width (last_value last) refl small refl over)

pub two_bytes_at : (width : ℕ) (buffer : List ℕ) (start n : ℕ) → 14 ≤ width → start + 1 < length buffer → 128 ≤ get_or buffer start 0 →
    get_or buffer start 0 < 256 → get_or buffer (start + 1) 0 < 128 → n ≡ get_or buffer start 0 - 128 + 128 * get_or buffer (start + 1) 0 →
    NumberAt (EncodesUnsigned width) buffer start n (start + 2)
two_bytes_at width buffer start n wide lt ge small last e =
    let none : OccursAt buffer start start [] = record { parts = refl; ends = omega arith } in
    let one = occurs_more buffer [] start start (omega arith) none in
    let two = occurs_more buffer (get_or buffer start 0 ∷ []) start (start + 1) lt one in
    let room : get_or buffer (start + 1) 0 < 2 ^ (width - 7) = wide_fits (get_or buffer (start + 1) 0) (width - 7) last (omega arith) in
    let after : start + 1 + 1 ≡ start + 2 = omega arith in (
      get_or buffer start 0 ∷ get_or buffer (start + 1) 0 ∷ [],
      (omega arith, ge, small, get_or buffer (start + 1) 0, omega (arith, e), (last, refl, room)),
      subst (λ k. OccursAt buffer start k (get_or buffer start 0 ∷ get_or buffer (start + 1) 0 ∷ [])) after two,
    )
