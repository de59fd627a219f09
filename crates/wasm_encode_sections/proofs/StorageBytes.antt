-- The bytes of storage types, and of mutability.
use Rattle.std.proofs.Common.{◌≡◌, ◌≢◌, ℕ, ◌+◌, ◌≤◌, ◌⊎◌, inl, inr, Bool, true, false, List, [], ◌∷◌, ◌++◌, length, refl, sym, subst, ap, ◌∙◌, arith}
use Rattle.std.proofs.lemmas.Bool.{eqb-true, ne_eqb, eqb-false, leb-true}
use Rattle.std.specs.Prelude.{◌==◌, ◌||◌, leb}
use Rattle.wasm_below.specs.declared.types.ValType.{ValType}
use Rattle.wasm_below.specs.declared.types.ValType.TheVariants as value
use Rattle.wasm_below.specs.TypeEncoding.{EncodesValType}
use Rattle.wasm_below.proofs.TypeEncodings.{value_empty, number_leads, ref_leads}
use Rattle.wasm_grammars.specs.Grammar.{Leads, Encodes}
use Rattle.wasm_types.specs.declared.fields.StorageType.{StorageType}
use Rattle.wasm_types.specs.declared.fields.StorageType.TheVariants as storage
use Rattle.wasm_grammars.specs.Parts.{byte, val_type}
use Rattle.wasm_types.specs.Types.{leads_packed, packed, value_type, storage_type, is_mutable, mutability}
use Rattle.wasm_write_grammars.specs.Writing.{Writes}
use Rattle.wasm_write_grammars.proofs.Owing.{owes, wrote, led, unled, meets, paid, paid_in}

pub only_packed : (b c : ℕ) → leads_packed b ≡ true → leads_packed c ≡ true → packed (b == 0x78) ≡ packed (c == 0x78) → b ≡ c
only_packed b c is other same = by (b == 0x78) (c == 0x78) refl refl is other same
  where
    flag : (x y : Bool) → packed x ≡ packed y → x ≡ y
    flag true true e = refl
    flag false false e = refl
    flag true false e = absurd (cc e)
    flag false true e = absurd (cc e)

    by : (x y : Bool) → (b == 0x78) ≡ x → (c == 0x78) ≡ y → (x || (b == 0x77)) ≡ true → (y || (c == 0x77)) ≡ true → packed x ≡ packed y → b ≡ c
    by true true p q is other e = eqb-true b 0x78 p ∙ sym (eqb-true c 0x78 q)
    by false false p q is other e = eqb-true b 0x77 is ∙ sym (eqb-true c 0x77 other)
    by true false p q is other e = absurd (cc e)
    by false true p q is other e = absurd (cc e)

not_packed : (b : ℕ) → b ≢ 0x78 → b ≢ 0x77 → leads_packed b ≡ false
not_packed b m n = ap (λ z. z || (b == 0x77)) (ne_eqb b 0x78 m) ∙ ne_eqb b 0x77 n

val_leads : (b : ℕ) (tail : List ℕ) (v : ValType) → EncodesValType (b ∷ tail) v → (b ≢ 0x78) × (b ≢ 0x77)
val_leads b tail (value.Ref r) p = let l = ref_leads b tail r p in (λ e. omega (arith, e, l.0, l.1), λ e. omega (arith, e, l.0, l.1))
val_leads b tail value.I32 p = let low = number_leads b tail value.I32 p in (λ e. omega (arith, e, low), λ e. omega (arith, e, low))
val_leads b tail value.I64 p = let low = number_leads b tail value.I64 p in (λ e. omega (arith, e, low), λ e. omega (arith, e, low))
val_leads b tail value.F32 p = let low = number_leads b tail value.F32 p in (λ e. omega (arith, e, low), λ e. omega (arith, e, low))
val_leads b tail value.F64 p = let low = number_leads b tail value.F64 p in (λ e. omega (arith, e, low), λ e. omega (arith, e, low))
val_leads b tail value.V128 p = let low = number_leads b tail value.V128 p in (λ e. omega (arith, e, low), λ e. omega (arith, e, low))

pub value_leads : (place : ℕ) (text : List ℕ) (x : StorageType) → Encodes value_type place text x → Leads leads_packed false text
value_leads place text x ([], rest, v, e, p, same) = absurd (value_empty v p)
value_leads place text x (b ∷ first, rest, v, e, p, same) = let l = val_leads b first v p in (b, first ++ rest, e, not_packed b l.0 l.1)

-- The byte of mutability.
abbrev pub mutable_byte : Bool → ℕ
mutable_byte true = 1
mutable_byte false = 0

pub only_mutable : (b at : ℕ) (text : List ℕ) (m : Bool) → Encodes (is_mutable b) at text m → b ≡ mutable_byte m
only_mutable b at text m (small, (n, same)) = by (b == 1) refl (sym same)
  where
    by : (x : Bool) → (b == 1) ≡ x → (b == 1) ≡ m → b ≡ mutable_byte m
    by true is e = eqb-true b 1 is ∙ ap mutable_byte (sym is ∙ e)
    by false is e =
        let le : b ≤ 1 = leb-true b 1 small in
        let ne : b ≢ 1 = eqb-false b 1 is in
        let zero_is : b ≡ 0 = omega (arith, le, ne) in
        zero_is ∙ ap mutable_byte (sym is ∙ e)

pub mutable_written : (m : Bool) {old new : List ℕ} → Writes byte (mutable_byte m) old new → Writes mutability m old new
mutable_written m {old} {new} w =
    let first = wrote (owes mutability m old) (mutable_byte m) (λ z place at first after p e. only_mutable z at after m e) w in
    paid_in first (by m new)
  where
    by : (m : Bool) (now : List ℕ) → Writes (is_mutable (mutable_byte m)) m now now
    by true now = paid (meets (owes (is_mutable 1) true now) refl) refl
    by false now = paid (meets (owes (is_mutable 0) false now) refl) refl

packed_not_val : (b : Bool) (ty : ValType) → storage.Val ty ≡ packed b → ⊥
packed_not_val true ty e = absurd (cc e)
packed_not_val false ty e = absurd (cc e)

pub packed_written : (b : Bool) (c : ℕ) (old : List ℕ) {new : List ℕ} → leads_packed c ≡ true → packed b ≡ packed (c == 0x78) → Writes byte c old new →
    Writes storage_type (packed b) old new
packed_written b c old is same w =
    paid (led (owes storage_type (packed b) old) c is (λ d place text lead (n, other). only_packed d c lead is (sym other ∙ same))
    (λ place text lead (first, after, v, e, p, (n, other)). packed_not_val b v (sym other)) w) same

pub val_written : (ty : ValType) (old : List ℕ) {new : List ℕ} → Writes val_type ty old new → Writes storage_type (storage.Val ty) old new
val_written ty old w =
    let value = unled (owes storage_type (storage.Val ty) old) (λ place text p. value_leads place text (storage.Val ty) p)
    (λ place text lead (first, after, b, e, p, (n, other)). absurd (packed_not_val (b == 0x78) ty other)) in
    paid (wrote value ty (λ z place at first after p (n, same). cc (sym same)) w) refl
