-- The bytes of flags.
use Rattle.std.proofs.Common.{◌≡◌, ◌≢◌, ℕ, zero, suc, ◌+◌, ◌≤◌, ◌<◌, ◌⊎◌, inl, inr, Bool, true, false, List, [], ◌∷◌, ◌++◌, length, refl, sym, subst, ap, ◌∙◌, arith}
use Rattle.std.proofs.lemmas.Bool.{le-leb, leb-true}
use Rattle.std.specs.Prelude.{leb}
use Rattle.wasm_below.specs.declared.malformed.Malformed.{Malformed}
use Rattle.wasm_grammars.specs.Grammar.{Encodes}
use Rattle.wasm_grammars.specs.Parts.{byte}
use Rattle.wasm_externals.specs.Flags.{flags, has_flag}
use Rattle.wasm_write_grammars.specs.Writing.{Writes}
use Rattle.wasm_write_grammars.proofs.Owing.{owes, wrote, meets, paid}
use Rattle.wasm_encode_sections.specs.Flags.{flag_byte}

pub flag_bits : (a b c d : Bool) → (has_flag (flag_byte a b c d) 1 ≡ a) × (has_flag (flag_byte a b c d) 2 ≡ b) × (has_flag (flag_byte a b c d) 4 ≡ c) × (has_flag (flag_byte a b c d) 8 ≡ d)
flag_bits false false false false = (refl, refl, refl, refl)
flag_bits true false false false = (refl, refl, refl, refl)
flag_bits false true false false = (refl, refl, refl, refl)
flag_bits true true false false = (refl, refl, refl, refl)
flag_bits false false true false = (refl, refl, refl, refl)
flag_bits true false true false = (refl, refl, refl, refl)
flag_bits false true true false = (refl, refl, refl, refl)
flag_bits true true true false = (refl, refl, refl, refl)
flag_bits false false false true = (refl, refl, refl, refl)
flag_bits true false false true = (refl, refl, refl, refl)
flag_bits false true false true = (refl, refl, refl, refl)
flag_bits true true false true = (refl, refl, refl, refl)
flag_bits false false true true = (refl, refl, refl, refl)
flag_bits true false true true = (refl, refl, refl, refl)
flag_bits false true true true = (refl, refl, refl, refl)
flag_bits true true true true = (refl, refl, refl, refl)

-- A byte is determined by its flags.
pub only_flags : (n : ℕ) → n ≤ 15 → n ≡ flag_byte (has_flag n 1) (has_flag n 2) (has_flag n 4) (has_flag n 8)
only_flags zero le = refl
only_flags (suc zero) le = refl
only_flags (suc (suc zero)) le = refl
only_flags (suc (suc (suc zero))) le = refl
only_flags (suc (suc (suc (suc zero)))) le = refl
only_flags (suc (suc (suc (suc (suc zero))))) le = refl
only_flags (suc (suc (suc (suc (suc (suc zero)))))) le = refl
only_flags (suc (suc (suc (suc (suc (suc (suc zero))))))) le = refl
only_flags (suc (suc (suc (suc (suc (suc (suc (suc zero)))))))) le = refl
only_flags (suc (suc (suc (suc (suc (suc (suc (suc (suc zero))))))))) le = refl
only_flags (suc (suc (suc (suc (suc (suc (suc (suc (suc (suc zero)))))))))) le = refl
only_flags (suc (suc (suc (suc (suc (suc (suc (suc (suc (suc (suc zero))))))))))) le = refl
only_flags (suc (suc (suc (suc (suc (suc (suc (suc (suc (suc (suc (suc zero)))))))))))) le = refl
only_flags (suc (suc (suc (suc (suc (suc (suc (suc (suc (suc (suc (suc (suc zero))))))))))))) le = refl
only_flags (suc (suc (suc (suc (suc (suc (suc (suc (suc (suc (suc (suc (suc (suc zero)))))))))))))) le = refl
only_flags (suc (suc (suc (suc (suc (suc (suc (suc (suc (suc (suc (suc (suc (suc (suc zero))))))))))))))) le = refl
only_flags (suc (suc (suc (suc (suc (suc (suc (suc (suc (suc (suc (suc (suc (suc (suc (suc n)))))))))))))))) le = absurd (omega (arith, le))

no_flag_4 : (n : ℕ) → n ≤ 3 → has_flag n 4 ≡ false
no_flag_4 zero le = refl
no_flag_4 (suc zero) le = refl
no_flag_4 (suc (suc zero)) le = refl
no_flag_4 (suc (suc (suc zero))) le = refl
no_flag_4 (suc (suc (suc (suc n)))) le = absurd (omega (arith, le))

no_flag_8 : (n : ℕ) → n ≤ 7 → has_flag n 8 ≡ false
no_flag_8 zero le = refl
no_flag_8 (suc zero) le = refl
no_flag_8 (suc (suc zero)) le = refl
no_flag_8 (suc (suc (suc zero))) le = refl
no_flag_8 (suc (suc (suc (suc zero)))) le = refl
no_flag_8 (suc (suc (suc (suc (suc zero))))) le = refl
no_flag_8 (suc (suc (suc (suc (suc (suc zero)))))) le = refl
no_flag_8 (suc (suc (suc (suc (suc (suc (suc zero))))))) le = refl
no_flag_8 (suc (suc (suc (suc (suc (suc (suc (suc n)))))))) le = absurd (omega (arith, le))

pub only_two : (n : ℕ) (a b : Bool) → n ≤ 3 → has_flag n 1 ≡ a → has_flag n 2 ≡ b → n ≡ flag_byte a b false false
only_two n a b le p q = only_flags n (omega (arith, le)) ∙ cc (p, q, no_flag_4 n le, no_flag_8 n (omega (arith, le)))

pub only_three : (n : ℕ) (a b c : Bool) → n ≤ 7 → has_flag n 1 ≡ a → has_flag n 2 ≡ b → has_flag n 4 ≡ c → n ≡ flag_byte a b c false
only_three n a b c le p q r = only_flags n (omega (arith, le)) ∙ cc (p, q, r, no_flag_8 n le)

pub only_four : (n : ℕ) (a b c d : Bool) → n ≤ 15 → has_flag n 1 ≡ a → has_flag n 2 ≡ b → has_flag n 4 ≡ c → has_flag n 8 ≡ d → n ≡ flag_byte a b c d
only_four n a b c d le p q r s = only_flags n le ∙ cc (p, q, r, s)

pub two_small : (a b : Bool) → flag_byte a b false false ≤ 3
two_small true true = omega arith
two_small true false = omega arith
two_small false true = omega arith
two_small false false = omega arith

pub three_small : (a b c : Bool) → flag_byte a b c false ≤ 7
three_small true true true = omega arith
three_small true false true = omega arith
three_small false true true = omega arith
three_small false false true = omega arith
three_small true true false = omega arith
three_small true false false = omega arith
three_small false true false = omega arith
three_small false false false = omega arith

pub flags_small : (limit : ℕ) (e : Malformed) (place : ℕ) (text : List ℕ) (n : ℕ) → Encodes (flags limit e) place text n → n ≤ limit
flags_small limit e place text n (first, after, b, parts, p, (small, (none, same))) = leb-true n limit (subst (λ z. leb z limit ≡ true) (sym same) small)

pub flags_written : (limit : ℕ) (e : Malformed) (n : ℕ) → n ≤ limit → {old new : List ℕ} → Writes byte n old new → Writes (flags limit e) n old new
flags_written limit e n le {old} w =
    paid (meets (wrote (owes (flags limit e) n old) n (λ z place at first after p (small, (none, same)). sym same) w) (le-leb n limit le)) refl
