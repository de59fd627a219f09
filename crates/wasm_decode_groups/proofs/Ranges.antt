-- The places of some entries in a list.
use Rattle.std.proofs.Common.{◌≡◌, ℕ, zero, suc, ◌+◌, ◌<◌, ◌≤◌, Bool, true, false, cond, List, [], ◌∷◌, ◌⊎◌, inl, inr, get_or, leb, refl, subst, ap, arith}
use Rattle.std.proofs.lemmas.Bool.{leb-true, cases_lt}
use Rattle.wasm_decode_opcodes.specs.Entry.{Entry, unknown, prefixes, free, guarded}

-- The code is in one of these ranges.
abbrev pub InRanges : ℕ → List (ℕ × ℕ) → Type 0
InRanges c [] = ⊥
InRanges c (r ∷ rs) = ((r.0 ≤ c) × (c ≤ r.1)) ⊎ InRanges c rs

abbrev in_ranges : List (ℕ × ℕ) → ℕ → Bool
in_ranges [] c = false
in_ranges (r ∷ rs) c = cond (leb r.0 c) (cond (leb c r.1) true (in_ranges rs c)) (in_ranges rs c)

-- Each entry of the list with the property is at a code in the ranges.
abbrev pub covers : (Entry → Bool) → List (ℕ × ℕ) → ℕ → List Entry → Bool
covers t rs i [] = true
covers t rs i (e ∷ es) = cond (t e) (cond (in_ranges rs i) (covers t rs (suc i) es) false) (covers t rs (suc i) es)

ranges_true : (rs : List (ℕ × ℕ)) (c : ℕ) → in_ranges rs c ≡ true → InRanges c rs
ranges_true [] c h = absurd (cc h)
ranges_true (r ∷ rs) c h = go (λ e. ranges_true rs c e) (leb r.0 c) (leb c r.1) refl refl h
  where
    go : (in_ranges rs c ≡ true → InRanges c rs) → (a b : Bool) → leb r.0 c ≡ a → leb c r.1 ≡ b → cond a (cond b true (in_ranges rs c)) (in_ranges rs c) ≡ true →
        ((r.0 ≤ c) × (c ≤ r.1)) ⊎ InRanges c rs
    go f true true ea eb h = inl (leb-true r.0 c ea, leb-true c r.1 eb)
    go f true false ea eb h = inr (f h)
    go f false b ea eb h = inr (f h)

covered : (t : Entry → Bool) (rs : List (ℕ × ℕ)) (i : ℕ) (es : List Entry) (c : ℕ) (d : Entry) → t d ≡ false → covers t rs i es ≡ true →
    t (get_or es c d) ≡ true → in_ranges rs (i + c) ≡ true
covered t rs i [] c d f h e = absurd (cc (f, e))
covered t rs i (x ∷ es) zero d f h e = go (in_ranges rs i) refl (rw e at h)
  where
    go : (b : Bool) → in_ranges rs i ≡ b → cond b (covers t rs (suc i) es) false ≡ true → in_ranges rs (i + zero) ≡ true
    go true eb h = let z : i ≡ i + zero = omega arith in subst (λ x. in_ranges rs x ≡ true) z eb
    go false eb h = absurd (cc h)
covered t rs i (x ∷ es) (suc c) d f h e =
    let z : suc i + c ≡ i + suc c = omega arith in
    subst (λ y. in_ranges rs y ≡ true) z (covered t rs (suc i) es c d f (go (t x) (in_ranges rs i) h) e)
  where
    go : (a b : Bool) → cond a (cond b (covers t rs (suc i) es) false) (covers t rs (suc i) es) ≡ true → covers t rs (suc i) es ≡ true
    go true true h = h
    go true false h = absurd (cc h)
    go false b h = h

-- a code with the property is in the ranges
pub codes_in : (t : Entry → Bool) (rs : List (ℕ × ℕ)) (es : List Entry) (c : ℕ) → t unknown ≡ false → covers t rs 0 es ≡ true → t (get_or es c unknown) ≡ true →
    InRanges c rs
codes_in t rs es c f h e =
    let z : 0 + c ≡ c = omega arith in
    ranges_true rs c (subst (λ x. in_ranges rs x ≡ true) z (covered t rs 0 es c unknown f h e))

abbrev pub is_known : Entry → Bool
is_known unknown = false
is_known _ = true

-- no operator has a code outside of the ranges
pub unknown_outside : (rs : List (ℕ × ℕ)) (es : List Entry) (c : ℕ) → covers is_known rs 0 es ≡ true → (InRanges c rs → ⊥) → get_or es c unknown ≡ unknown
unknown_outside rs es c h outside = go (get_or es c unknown) refl
  where
    go : (e : Entry) → get_or es c unknown ≡ e → get_or es c unknown ≡ unknown
    go unknown q = q
    go prefixes q = absurd (outside (codes_in is_known rs es c refl h (ap is_known q)))
    go (free ks) q = absurd (outside (codes_in is_known rs es c refl h (ap is_known q)))
    go (guarded g ks) q = absurd (outside (codes_in is_known rs es c refl h (ap is_known q)))

abbrev pub is_operator : Entry → Bool
is_operator unknown = false
is_operator prefixes = false
is_operator _ = true

-- no operator with a one-byte opcode has an opcode outside of the ranges, except prefix bytes
pub unknown_byte : (rs : List (ℕ × ℕ)) (es : List Entry) (c : ℕ) → covers is_operator rs 0 es ≡ true → (get_or es c unknown ≡ prefixes → ⊥) → (InRanges c rs → ⊥) →
    get_or es c unknown ≡ unknown
unknown_byte rs es c h apart outside = go (get_or es c unknown) refl
  where
    go : (e : Entry) → get_or es c unknown ≡ e → get_or es c unknown ≡ unknown
    go unknown q = q
    go prefixes q = absurd (apart q)
    go (free ks) q = absurd (outside (codes_in is_operator rs es c refl h (ap is_operator q)))
    go (guarded g ks) q = absurd (outside (codes_in is_operator rs es c refl h (ap is_operator q)))

-- This many codes, from a given one on, have a property.
abbrev pub Run : (ℕ → Type 0) → ℕ → ℕ → Type 0
Run P low zero = Unit {0}
Run P low (suc n) = P low × Run P (suc low) n

pub in_run : (P : ℕ → Type 0) (n low c : ℕ) → Run P low n → low ≤ c → c < low + n → P c
in_run P zero low c r from to = absurd (omega arith)
in_run P (suc n) low c r from to =
    elim (cases_lt low c) [
      | inl lt ↦ in_run P n (suc low) c r.1 (omega arith) (omega arith)
      | inr le ↦ (let same : low ≡ c = omega arith in subst P same r.0)
    ]

-- Entries of operators with immediates.
abbrev pub is_other : Entry → Bool
is_other unknown = false
is_other (free []) = false
is_other _ = true
