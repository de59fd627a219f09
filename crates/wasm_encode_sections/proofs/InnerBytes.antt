-- The first byte of composite types.
use Rattle.std.proofs.Common.{◌≡◌, ◌≢◌, ℕ, ◌+◌, ◌⊎◌, Result, inl, inr, Bool, true, false, List, [], ◌∷◌, ◌++◌, length, refl, sym, subst, ap, ◌∙◌}
use Rattle.std.proofs.lemmas.Bool.{eqb-true}
use Rattle.std.specs.Prelude.{◌==◌}
use Rattle.std.specs.Prelude.{IsErrAnd}
use Rattle.wasm_below.specs.declared.message.Message.{Message}
use Rattle.wasm_below.specs.declared.message.Message.TheVariants as message
use Rattle.wasm_grammars.specs.Grammar.{Grammar, done, bind, thing, pick, Leads, Encodes}
use Rattle.wasm_grammars.specs.Parts.{byte}
use Rattle.wasm_types.specs.declared.fields.ArrayType.{ArrayType}
use Rattle.wasm_types.specs.declared.fields.StructType.{StructType}
use Rattle.wasm_types.specs.declared.functions.ContType.{ContType}
use Rattle.wasm_types.specs.declared.functions.FuncType.{FuncType}
use Rattle.wasm_types.specs.declared.composites.CompositeInnerType.{CompositeInnerType}
use Rattle.wasm_types.specs.declared.composites.CompositeInnerType.TheVariants as inner
use Rattle.wasm_types.specs.declared.composites.CompositeType.{CompositeType}
use Rattle.wasm_types.specs.Types.{func_type, array_type, struct_type, cont_type, inner_after, inner_type, shared_type, unshared_type, composite_type}
use Rattle.wasm_write_grammars.specs.Writing.{Writes, IsUnwritable, Extends, AppendsBy}
use Rattle.wasm_write_grammars.proofs.Owing.{Owes, owes, wrote, chosen, other, of_thing, thing_fails, paid}
use Rattle.wasm_encode_sections.specs.TypeReasons.{InnerReason}
use Rattle.wasm_encode_sections.proofs.SameValue.{writes_as}

-- The byte before the type.
abbrev pub inner_byte : CompositeInnerType → ℕ
inner_byte (inner.Func ty) = 0x60
inner_byte (inner.Array ty) = 0x5e
inner_byte (inner.Struct ty) = 0x5f
inner_byte (inner.Cont ty) = 0x5d

pub sides : {A B : Type 0} (c : Bool) → pick c A B → ((c ≡ true) × A) ⊎ ((c ≡ false) × B)
sides true a = inl (refl, a)
sides false b = inr (refl, b)

pub only_inner : (b at : ℕ) (text : List ℕ) (x : CompositeInnerType) → Encodes (inner_after b) at text x → b ≡ inner_byte x
only_inner b at text x p =
    elim (sides (b == 0x60) p) [
      | inl (is, (first, rest, ty, e, q, (n, same))) ↦ eqb-true b 0x60 is ∙ ap inner_byte (sym same)
      | inr (unequal, p) ↦ elim (sides (b == 0x5e) p) [
        | inl (is, (first, rest, ty, e, q, (n, same))) ↦ eqb-true b 0x5e is ∙ ap inner_byte (sym same)
        | inr (unequal, p) ↦ elim (sides (b == 0x5f) p) [
          | inl (is, (first, rest, ty, e, q, (n, same))) ↦ eqb-true b 0x5f is ∙ ap inner_byte (sym same)
          | inr (unequal, p) ↦ elim (sides (b == 0x5d) p) [
            | inl (is, (first, rest, ty, e, q, (n, same))) ↦ eqb-true b 0x5d is ∙ ap inner_byte (sym same)
            | inr (unequal, p) ↦ absurd p
          ]
        ]
      ]
    ]

-- No inner type starts with a byte for which this test holds.
pub inner_leads : (p : ℕ → Bool) → ((x : CompositeInnerType) → p (inner_byte x) ≡ false) → (place : ℕ) (text : List ℕ) (x : CompositeInnerType) →
    Encodes inner_type place text x → Leads p false text
inner_leads p none place text x (first, rest, b, e, one, r) =
    (b, rest, e ∙ ap (λ z. z ++ rest) one.0, ap p (only_inner b (place + length first) rest x r) ∙ none x)

pub unshared_leads : (p : ℕ → Bool) → ((x : CompositeInnerType) → p (inner_byte x) ≡ false) → (place : ℕ) (text : List ℕ) (x : CompositeType) →
    Encodes unshared_type place text x → Leads p false text
unshared_leads p none place text x (first, rest, i, e, q, (n, same)) =
    let (b, after, f, is) = inner_leads p none place first i q in
    (b, after ++ rest, e ∙ ap (λ z. z ++ rest) f, is)

-- The same for composite types, if it does not hold for the byte 0x65.
pub composite_leads : (p : ℕ → Bool) → ((x : CompositeInnerType) → p (inner_byte x) ≡ false) → p 0x65 ≡ false → (place : ℕ) (text : List ℕ) (x : CompositeType) →
    Encodes composite_type place text x → Leads p false text
composite_leads p none shared_too place text x (true, (c, after, e, is), q) = (c, after, e, ap p (eqb-true c 0x65 is) ∙ shared_too)
composite_leads p none shared_too place text x (false, l, q) = unshared_leads p none place text x q

not_shared : (x : CompositeInnerType) → (inner_byte x == 0x65) ≡ false
not_shared (inner.Func ty) = refl
not_shared (inner.Array ty) = refl
not_shared (inner.Struct ty) = refl
not_shared (inner.Cont ty) = refl

pub unshared_first : (place : ℕ) (text : List ℕ) (x : CompositeType) → Encodes unshared_type place text x → Leads (λ b. b == 0x65) false text
unshared_first = unshared_leads (λ b. b == 0x65) not_shared

-- ---- writing

pub inner_starts : (x : CompositeInnerType) (old : List ℕ) {new : List ℕ} → Writes byte (inner_byte x) old new → Owes inner_type x old (inner_after (inner_byte x)) new
inner_starts x old w = wrote (owes inner_type x old) (inner_byte x) (λ z place at first after p e. only_inner z at after x e) w

pub func_starts : (ty : FuncType) (old : List ℕ) {new : List ℕ} → Writes byte 0x60 old new →
    Owes inner_type (inner.Func ty) old (bind (thing func_type) (λ ty. done (inner.Func ty))) new
func_starts ty old w = chosen (inner_starts (inner.Func ty) old w) refl

pub array_starts : (ty : ArrayType) (old : List ℕ) {new : List ℕ} → Writes byte 0x5e old new →
    Owes inner_type (inner.Array ty) old (bind (thing array_type) (λ ty. done (inner.Array ty))) new
array_starts ty old w = chosen (other (inner_starts (inner.Array ty) old w) refl) refl

pub struct_starts : (ty : StructType) (old : List ℕ) {new : List ℕ} → Writes byte 0x5f old new →
    Owes inner_type (inner.Struct ty) old (bind (thing struct_type) (λ ty. done (inner.Struct ty))) new
struct_starts ty old w = chosen (other (other (inner_starts (inner.Struct ty) old w) refl) refl) refl

pub cont_starts : (ty : ContType) (old : List ℕ) {new : List ℕ} → Writes byte 0x5d old new →
    Owes inner_type (inner.Cont ty) old (bind (thing cont_type) (λ ty. done (inner.Cont ty))) new
cont_starts ty old w = chosen (other (other (other (inner_starts (inner.Cont ty) old w) refl) refl) refl) refl

-- The type after its byte; `f` is the variant.
module _ {Y : Type 0} {p : Grammar Y} (f : Y → CompositeInnerType) (one : (y z : Y) → f y ≡ f z → y ≡ z) (y : Y) {x : CompositeInnerType} (is : x ≡ f y) {old mid : List ℕ}
    (o : Owes inner_type (f y) old (bind (thing p) (λ z. done (f z))) mid) where
  pub body_written : {new : List ℕ} → Writes p y mid new → Writes inner_type x old new
  body_written w = writes_as (sym is) (paid (wrote o y (λ z place at first after q (n, same). one z y (sym same)) (of_thing w)) refl)

  pub body_fails : {Z : Type 0} (r : Result Z Message) {m : Message} → IsErrAnd r (λ k. k ≡ m) → {new : List ℕ} (WhyPart : Y → Message → Type 0) →
      Extends mid new × (m ≢ message.OutOfMemory → IsUnwritable p WhyPart y m) → (WhyPart y m → InnerReason (f y) m) → AppendsBy inner_type InnerReason x r old new
  body_fails r err {new} WhyPart h because =
      subst (λ k. AppendsBy inner_type InnerReason k r old new) (sym is)
      (thing_fails InnerReason r err o y (λ z place at first after q (n, same). one z y (sym same)) h because)
