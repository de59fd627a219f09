-- Writing composite types.
use Rattle.std.proofs.Common.{◌≡◌, ℕ, Bool, true, false, List, [], ◌∷◌, ◌++◌, length, refl, sym, subst, ap, ◌∙◌}
use Rattle.std.proofs.lemmas.Bool.{eqb-true, false≢true}
use Rattle.std.specs.Prelude.{◌==◌}
use Rattle.wasm_grammars.specs.Grammar.{Grammar, done, bind, thing, Leads, Encodes}
use Rattle.wasm_grammars.specs.Parts.{byte}
use Rattle.wasm_types.specs.declared.composites.CompositeInnerType.{CompositeInnerType}
use Rattle.wasm_types.specs.declared.composites.CompositeType.{CompositeType}
use Rattle.wasm_types.specs.Types.{inner_type, shared_type, unshared_type, composite_type}
use Rattle.wasm_write_grammars.specs.Writing.{Writes}
use Rattle.wasm_write_grammars.proofs.Owing.{Owes, Only, owes, wrote, led, unled, of_thing, paid}
use Rattle.wasm_encode_sections.proofs.InnerBytes.{unshared_first}

abbrev pub shared_by : CompositeInnerType → CompositeType
shared_by i = record { inner = i; shared = true }

abbrev pub unshared_by : CompositeInnerType → CompositeType
unshared_by i = record { inner = i; shared = false }

-- A shared type has no encoding without the byte, an unshared one none with it.
no_unshared : (x : CompositeType) → x.shared ≡ true → (place : ℕ) (text : List ℕ) → Encodes unshared_type place text x → ⊥
no_unshared x is place text (first, after, i, e, p, (n, same)) = false≢true (sym (ap (λ (t : CompositeType). t.shared) same) ∙ is)

no_shared : (x : CompositeType) → x.shared ≡ false → (place : ℕ) (text : List ℕ) → Encodes shared_type place text x → ⊥
no_shared x is place text (first, after, b, e, p, (a, c, i, f, q, (n, same))) = false≢true (sym is ∙ ap (λ (t : CompositeType). t.shared) same)

pub only_shared : (x : CompositeType) → Only (thing inner_type) (λ i. done (shared_by i)) x x.inner
only_shared x z place at first after p (n, same) = sym (ap (λ (t : CompositeType). t.inner) same)

pub only_unshared : (x : CompositeType) → Only inner_type (λ i. done (unshared_by i)) x x.inner
only_unshared x z place at first after p (n, same) = sym (ap (λ (t : CompositeType). t.inner) same)

pub shared_starts : (x : CompositeType) (old : List ℕ) → x.shared ≡ true → {mid : List ℕ} → Writes byte 0x65 old mid →
    Owes composite_type x old (bind (thing inner_type) (λ i. done (shared_by i))) mid
shared_starts x old is w = led (owes composite_type x old) 0x65 refl (λ c place text lead e. eqb-true c 0x65 lead) (λ place text lead e. no_unshared x is place text e) w

pub unshared_starts : (x : CompositeType) (old : List ℕ) → x.shared ≡ false → Owes composite_type x old unshared_type old
unshared_starts x old is = unled (owes composite_type x old) (λ place text e. unshared_first place text x e) (λ place text lead e. absurd (no_shared x is place text e))

pub shared_written : (x : CompositeType) (old : List ℕ) → x.shared ≡ true → {mid new : List ℕ} → Writes byte 0x65 old mid → Writes inner_type x.inner mid new →
    Writes composite_type x old new
shared_written x old is one two =
    paid (wrote (shared_starts x old is one) x.inner (only_shared x) (of_thing two)) (ap (λ b. record { inner = x.inner; shared = b }) is)

pub unshared_written : (x : CompositeType) (old : List ℕ) → x.shared ≡ false → {new : List ℕ} → Writes inner_type x.inner old new → Writes composite_type x old new
unshared_written x old is w =
    paid (wrote (unshared_starts x old is) x.inner (only_unshared x) w) (ap (λ b. record { inner = x.inner; shared = b }) is)
