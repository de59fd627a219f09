-- LEB128 numbers of several bytes: one statement for unsigned and signed numbers.
use Rattle.std.proofs.Common.{◌≡◌, ℕ, ◌+◌, ◌-◌, ◌*◌, ◌/◌, ◌%◌, ◌<◌, ◌≤◌, ◌^◌, List, [], ◌∷◌, ◌++◌, length, drop, get_or, Bool, true, false, refl, sym, subst, ap, ◌∙◌, append_assoc, length-append, add-one, arith, ℤ, pos, ◌+ℤ◌, ◌*ℤ◌}
use Rattle.std.specs.Prelude.{ltb}
use Rattle.std.proofs.lemmas.Int.{ints}
use Rattle.std.proofs.lemmas.Nat.{pow-add, pow_below, shl_whole, mul-le}
use Rattle.std.proofs.Math.Seq.{drop-cons}
use Rattle.wasm_below.specs.Number.{EncodesUnsigned, EncodesSigned, last_value, with_sign}
use Rattle.wasm_below.specs.Leb128.{AllGoOn, low_bits, signed_value, OccursAt}
use Rattle.wasm_below.specs.Source.{NoPrefix}
use Rattle.wasm_below.proofs.Numbers.{unsigned_rest, unsigned_long}
use Rattle.wasm_below.proofs.SignedNumbers.{signed_rest, signed_long}

-- An encoding by septets: how a low septet joins the number after it, and which bytes
-- encode none.
pub record IsLeb128 {X : Type 0} (Encodes : ℕ → List ℕ → X → Type 0) (join : ℕ → X → X) : Type 0 where
  pub more : (width b : ℕ) (text : List ℕ) (high : X) → 7 < width → 128 ≤ b → b < 256 → Encodes (width - 7) text high →
      Encodes width (b ∷ text) (join (b - 128) high)
  pub empty : (width : ℕ) → NoPrefix (Encodes width) []
  pub after : (bytes after : List ℕ) (b width : ℕ) → bytes ≡ b ∷ after → 128 ≤ b → NoPrefix (Encodes (width - 7)) after → NoPrefix (Encodes width) bytes
  pub long : (bytes after : List ℕ) (b width : ℕ) → bytes ≡ b ∷ after → 128 ≤ b → width ≤ 7 → NoPrefix (Encodes width) bytes

abbrev pub joined : {X : Type 0} → (ℕ → X → X) → List ℕ → X → X
joined join [] x = x
joined join (c ∷ text) x = join (c - 128) (joined join text x)

module _ {X : Type 0} (Encodes : ℕ → List ℕ → X → Type 0) (join : ℕ → X → X) (leb128 : IsLeb128 Encodes join) where
  pub continued : (text : List ℕ) (width last : ℕ) (x : X) → AllGoOn text → 7 * length text < width → Encodes (width - 7 * length text) (last ∷ []) x →
      Encodes width (text ++ last ∷ []) (joined join text x)
  continued [] width last x go lt p = subst (λ w. Encodes w (last ∷ []) x) (omega arith) p
  continued (c ∷ text) width last x (ge, small, go) lt p =
      leb128.more width c (text ++ last ∷ []) (joined join text x) (omega arith) ge small
      (continued text (width - 7) last x go (omega arith) (subst (λ w. Encodes w (last ∷ []) x) (omega arith) p))

  pub none_after : (text after : List ℕ) (width : ℕ) → AllGoOn text → NoPrefix (Encodes (width - 7 * length text)) after →
      NoPrefix (Encodes width) (text ++ after)
  none_after [] after width go none = subst (λ w. NoPrefix (Encodes w) after) (omega arith) none
  none_after (c ∷ text) after width (ge, small, go) none =
      leb128.after (c ∷ (text ++ after)) (text ++ after) c width refl ge
      (none_after text after (width - 7) go (subst (λ w. NoPrefix (Encodes w) after) (omega arith) none))

unsigned_joins : (width b : ℕ) (text : List ℕ) (high : ℕ) → 7 < width → 128 ≤ b → b < 256 → EncodesUnsigned (width - 7) text high →
    EncodesUnsigned width (b ∷ text) (128 * high + (b - 128))
unsigned_joins width b [] high wide ge small p = absurd p
unsigned_joins width b (c ∷ text) high wide ge small p = (wide, ge, small, high, omega arith, p)

unsigned_empty : (width : ℕ) → NoPrefix (EncodesUnsigned width) []
unsigned_empty width [] after x p e = p
unsigned_empty width (c ∷ text) after x p e = cc e

pub unsigned_leb128 : IsLeb128 EncodesUnsigned (λ low high. 128 * high + low)
unsigned_leb128 = record { more = unsigned_joins; empty = unsigned_empty; after = unsigned_rest; long = unsigned_long }

signed_joins : (width b : ℕ) (text : List ℕ) (high : ℤ) → 7 < width → 128 ≤ b → b < 256 → EncodesSigned (width - 7) text high →
    EncodesSigned width (b ∷ text) ((pos 128 *ℤ high) +ℤ pos (b - 128))
signed_joins width b [] high wide ge small p = absurd p
signed_joins width b (c ∷ text) high wide ge small p = (wide, ge, small, high, refl, p)

signed_empty : (width : ℕ) → NoPrefix (EncodesSigned width) []
signed_empty width [] after x p e = p
signed_empty width (c ∷ text) after x p e = cc e

pub signed_leb128 : IsLeb128 EncodesSigned (λ low high. (pos 128 *ℤ high) +ℤ pos low)
signed_leb128 = record { more = signed_joins; empty = signed_empty; after = signed_rest; long = signed_long }

septet_power : (n : ℕ) → 2 ^ (7 * n + 7) ≡ 128 * 2 ^ (7 * n)
septet_power n = let e : 7 * n + 7 ≡ 7 + 7 * n = omega arith in ap (λ k. 2 ^ k) e ∙ pow-add 2 7 (7 * n)

suc_power : (n k : ℕ) → k ≡ 7 * n + 7 → 2 ^ k ≡ 128 * 2 ^ (7 * n)
suc_power n k e = ap (λ k. 2 ^ k) e ∙ septet_power n

pub low_below : (text : List ℕ) → AllGoOn text → low_bits text < 2 ^ (7 * length text)
low_below [] go = omega arith
low_below (c ∷ text) (ge, small, go) = omega (arith, low_below text go, suc_power (length text) (7 * length (c ∷ text)) (omega arith))

pub unsigned_joined : (text : List ℕ) (x : ℕ) → joined (λ low high. 128 * high + low) text x ≡ low_bits text + x * 2 ^ (7 * length text)
unsigned_joined [] x = omega arith
unsigned_joined (c ∷ text) x =
    let p = suc_power (length text) (7 * length (c ∷ text)) (omega arith) in
    omega (arith, unsigned_joined text x, ap (λ m. x * m) p)

step_value : (b low unit more d : ℕ) → more ≡ 128 * unit → (pos 128 *ℤ signed_value low unit b) +ℤ pos d ≡ signed_value (128 * low + d) more b
step_value b low unit more d e = subst (λ m. (pos 128 *ℤ signed_value low unit b) +ℤ pos d ≡ signed_value (128 * low + d) m b) (sym e) (by_sign (ltb b 64))
  where
    by_sign : (t : Bool) → (pos 128 *ℤ with_sign t (low + b * unit) (128 * unit)) +ℤ pos d ≡ with_sign t (128 * low + d + b * (128 * unit)) (128 * (128 * unit))
    by_sign true = omega (arith, ints)
    by_sign false = omega (arith, ints)

pub signed_joined : (text : List ℕ) (b : ℕ) →
    joined (λ low high. (pos 128 *ℤ high) +ℤ pos low) text (last_value b) ≡ signed_value (low_bits text) (2 ^ (7 * length text)) b
signed_joined [] b = by_sign (ltb b 64)
  where
    by_sign : (t : Bool) → with_sign t b 128 ≡ with_sign t (0 + b * 1) (128 * 1)
    by_sign true = omega (arith, ints)
    by_sign false = omega (arith, ints)
signed_joined (c ∷ text) b =
    ap (λ z. (pos 128 *ℤ z) +ℤ pos (c - 128)) (signed_joined text b) ∙
    step_value b (low_bits text) (2 ^ (7 * length text)) (2 ^ (7 * length (c ∷ text))) (c - 128)
    (suc_power (length text) (7 * length (c ∷ text)) (omega arith))

-- The septets read from `start` up to `position`.
pub record SoFar (buffer : List ℕ) (start position low shift count : ℕ) : Type 0 where
  pub text : List ℕ
  pub go_on : AllGoOn text
  pub low_is : low ≡ low_bits text
  pub shift_is : shift ≡ 7 * count
  pub many : length text ≡ count
  pub occurs : OccursAt buffer start position text

go_on_more : (text : List ℕ) (c : ℕ) → AllGoOn text → 128 ≤ c → c < 256 → AllGoOn (text ++ c ∷ [])
go_on_more [] c go ge small = (ge, small, tt)
go_on_more (d ∷ text) c (dge, dsmall, go) ge small = (dge, dsmall, go_on_more text c go ge small)

low_more : (text : List ℕ) (c : ℕ) → low_bits (text ++ c ∷ []) ≡ low_bits text + (c - 128) * 2 ^ (7 * length text)
low_more [] c = omega arith
low_more (d ∷ text) c =
    let p = suc_power (length text) (7 * length (d ∷ text)) (omega arith) in
    omega (arith, low_more text c, ap (λ m. (c - 128) * m) p)

pub occurs_more : (buffer text : List ℕ) (start position : ℕ) → position < length buffer → OccursAt buffer start position text →
    OccursAt buffer start (position + 1) (text ++ get_or buffer position 0 ∷ [])
occurs_more buffer text start position lt s =
    let c = get_or buffer position 0 in
    let next : drop position buffer ≡ c ∷ drop (position + 1) buffer = drop-cons buffer position 0 lt ∙
    ap (λ k. c ∷ drop k buffer) (sym (add-one position)) in
    record {
      parts = s.parts ∙ ap (λ z. text ++ z) next ∙ sym (append_assoc text (c ∷ []) (drop (position + 1) buffer));
      ends = omega (arith, s.ends, length-append text (c ∷ []));
    }

pub one_more : (buffer : List ℕ) (start position low shift count low2 : ℕ) → SoFar buffer start position low shift count → position < length buffer →
    128 ≤ get_or buffer position 0 → get_or buffer position 0 < 256 → low2 ≡ low + (get_or buffer position 0 - 128) * 2 ^ shift →
    SoFar buffer start (position + 1) low2 (shift + 7) (count + 1)
one_more buffer start position low shift count low2 s lt ge small e =
    let c = get_or buffer position 0 in
    let same : shift ≡ 7 * length s.text = omega (arith, s.shift_is, s.many) in
    record {
      text = s.text ++ c ∷ [];
      go_on = go_on_more s.text c s.go_on ge small;
      low_is = e ∙ ap (λ k. low + (c - 128) * 2 ^ k) same ∙ ap (λ l. l + (c - 128) * 2 ^ (7 * length s.text)) s.low_is ∙ sym (low_more s.text c);
      shift_is = omega (arith, s.shift_is);
      many = omega (arith, s.many, length-append s.text (c ∷ []));
      occurs = occurs_more buffer s.text start position lt s.occurs;
    }

pub low_so_far : (buffer : List ℕ) (start position low shift count : ℕ) → SoFar buffer start position low shift count → low < 2 ^ shift
low_so_far buffer start position low shift count s =
    let same : 7 * length s.text ≡ shift = omega (arith, s.shift_is, s.many) in
    omega (arith, s.low_is, low_below s.text s.go_on, ap (λ k. 2 ^ k) same)

power_below : (shift : ℕ) → shift < 57 → 128 * 2 ^ shift < 2 ^ 64
power_below shift lt = let b = pow_below (7 + shift) 64 (omega arith) in omega (arith, pow-add 2 7 shift, b)

pub septet_fits : (buffer : List ℕ) (start position low shift count width x : ℕ) → SoFar buffer start position low shift count → count < (width - 1) / 7 →
    width ≤ 64 → x < 128 → ((x * 2 ^ shift) % 2 ^ 64 ≡ x * 2 ^ shift) × (low + x * 2 ^ shift < 2 ^ 64)
septet_fits buffer start position low shift count width x s few wide small =
    let lt : shift < 57 = omega (arith, s.shift_is) in
    let below = low_so_far buffer start position low shift count s in
    let whole : x * 2 ^ shift ≤ 127 * 2 ^ shift = mul-le x (2 ^ shift) 127 (2 ^ shift) (omega arith) (omega arith) in
    (shl_whole x 7 shift 64 small (omega arith), omega (arith, power_below shift lt))

pub unsigned_fits : (low shift last : ℕ) → shift < 64 → low < 2 ^ shift → last < 2 ^ (64 - shift) →
    ((last * 2 ^ shift) % 2 ^ 64 ≡ last * 2 ^ shift) × (low + last * 2 ^ shift < 2 ^ 64)
unsigned_fits low shift last few lt fits =
    let all : 64 - shift + shift ≡ 64 = omega arith in
    let room : 2 ^ (64 - shift) * 2 ^ shift ≡ 2 ^ 64 = sym (pow-add 2 (64 - shift) shift) ∙ ap (λ k. 2 ^ k) all in
    let whole : (last + 1) * 2 ^ shift ≤ 2 ^ (64 - shift) * 2 ^ shift =
    mul-le (last + 1) (2 ^ shift) (2 ^ (64 - shift)) (2 ^ shift) (omega arith) (omega arith) in
    (shl_whole last (64 - shift) shift 64 fits (omega arith), omega (arith, whole, room))
