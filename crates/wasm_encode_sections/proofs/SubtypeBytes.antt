-- The first byte of subtypes and of groups.
use Rattle.std.proofs.Common.{◌≡◌, ◌≢◌, ℕ, ◌+◌, ◌≤◌, ◌<◌, ◌⊎◌, inl, inr, Bool, true, false, List, [], ◌∷◌, ◌++◌, length, refl, sym, subst, ap, ◌∙◌, arith, length-append}
use Rattle.std.proofs.lemmas.Bool.{eqb-true, eqb-false, leb-true}
use Rattle.std.specs.Prelude.{◌==◌, ◌||◌, Option, Some, None}
use Rattle.std.proofs.lemmas.List.{append-nil}
use Rattle.wasm_below.specs.Reference.{max_type_index}
use Rattle.wasm_grammars.specs.Grammar.{done, choose, Leads, Encodes}
use Rattle.wasm_types.specs.declared.composites.CompositeInnerType.{CompositeInnerType}
use Rattle.wasm_types.specs.declared.composites.CompositeInnerType.TheVariants as inner
use Rattle.wasm_types.specs.declared.recursive.RecGroup.{RecGroup}
use Rattle.wasm_types.specs.declared.recursive.SubType.{SubType}
use Rattle.wasm_types.specs.Types.{is_sub, declared_type, plain_type, sub_type, implicit_group, super_index, supertype}
use Rattle.wasm_write_grammars.specs.Writing.{HasNone, IsUnwritable}
use Rattle.wasm_encode_sections.specs.TypeReasons.{SuperReason}
use Rattle.wasm_below.specs.declared.malformed.Malformed.TheVariants as malformed
use Rattle.wasm_below.specs.declared.message.Message.TheVariants as message
use Rattle.wasm_encode_sections.specs.Subtypes.{is_plain, sub_byte}
use Rattle.wasm_encode_sections.proofs.InnerBytes.{inner_byte, sides, composite_leads}

inner_not_sub : (x : CompositeInnerType) → is_sub (inner_byte x) ≡ false
inner_not_sub (inner.Func ty) = refl
inner_not_sub (inner.Array ty) = refl
inner_not_sub (inner.Struct ty) = refl
inner_not_sub (inner.Cont ty) = refl

inner_not_group : (x : CompositeInnerType) → (inner_byte x == 0x4e) ≡ false
inner_not_group (inner.Func ty) = refl
inner_not_group (inner.Array ty) = refl
inner_not_group (inner.Struct ty) = refl
inner_not_group (inner.Cont ty) = refl

plain_leads_by : (p : ℕ → Bool) → ((x : CompositeInnerType) → p (inner_byte x) ≡ false) → p 0x65 ≡ false → (place : ℕ) (text : List ℕ) (x : SubType) →
    Encodes plain_type place text x → Leads p false text
plain_leads_by p none shared_too place text x (first, rest, ty, e, q, (n, same)) =
    let (b, after, f, is) = composite_leads p none shared_too place first ty q in
    (b, after ++ rest, e ∙ ap (λ z. z ++ rest) f, is)

pub plain_leads : (place : ℕ) (text : List ℕ) (x : SubType) → Encodes plain_type place text x → Leads is_sub false text
plain_leads = plain_leads_by is_sub inner_not_sub refl

plain_parts : (f : Bool) (s : Option ℕ) → is_plain f s ≡ true → (f ≡ true) × (s ≡ None)
plain_parts true None e = (refl, refl)
plain_parts true (Some i) e = absurd (cc e)
plain_parts false None e = absurd (cc e)
plain_parts false (Some i) e = absurd (cc e)

pub plain_whole : (x : SubType) → is_plain x.is_final x.supertype_idx ≡ true → x ≡ record { is_final = true; supertype_idx = None; composite_type = x.composite_type }
plain_whole x plain =
    let parts = plain_parts x.is_final x.supertype_idx plain in
    ap (λ f. record { is_final = f; supertype_idx = x.supertype_idx; composite_type = x.composite_type }) parts.0 ∙
    ap (λ s. record { is_final = true; supertype_idx = s; composite_type = x.composite_type }) parts.1

-- A type in full, if it is final and has no supertype, has its composite type at its end.
pub plain_shorter : (x : SubType) → is_plain x.is_final x.supertype_idx ≡ true → (place : ℕ) (text : List ℕ) → Leads is_sub true text → Encodes declared_type place text x →
    (there : ℕ) × (other : List ℕ) × Encodes plain_type there other x × (length other ≤ length text)
plain_shorter x plain place text lead (a, r, b, e, byte_is, (c, s, super, f, super_is, (d, t, ty, g, ty_is, (none, same)))) =
    let final_is : x.is_final ≡ (b == 0x4f) = ap (λ (k : SubType). k.is_final) same in
    let super_same : x.supertype_idx ≡ super = ap (λ (k : SubType). k.supertype_idx) same in
    let type_same : x.composite_type ≡ ty = ap (λ (k : SubType). k.composite_type) same in
    let plain_is = plain_parts x.is_final x.supertype_idx plain in
    let whole : x ≡ record { is_final = true; supertype_idx = None; composite_type = ty } =
    same ∙ ap (λ k. record { is_final = k; supertype_idx = super; composite_type = ty }) (sym final_is ∙ plain_is.0) ∙
    ap (λ k. record { is_final = true; supertype_idx = k; composite_type = ty }) (sym super_same ∙ plain_is.1) in
    let l = ap length e ∙ length-append a r in
    let m = ap length f ∙ length-append c s in
    let k = ap length g ∙ length-append d t in
    (place + length a + length c, d, (d, [], ty, sym (append-nil d), ty_is, (refl, whole)), omega (arith, l, m, k))

-- A type that is not final, or has a supertype, is written in full.
pub not_plain : (x : SubType) → is_plain x.is_final x.supertype_idx ≡ false → (place : ℕ) (text : List ℕ) → Leads is_sub false text → Encodes plain_type place text x → ⊥
not_plain x plain place text lead (first, rest, ty, e, q, (n, same)) =
    cc (sym plain ∙ ap (λ (k : SubType). is_plain k.is_final k.supertype_idx) same)

pub only_sub : (b : ℕ) → is_sub b ≡ true → (f : Bool) → f ≡ (b == 0x4f) → b ≡ sub_byte f
only_sub b is f same = by (b == 0x4f) refl is
  where
    by : (x : Bool) → (b == 0x4f) ≡ x → (x || (b == 0x50)) ≡ true → b ≡ sub_byte f
    by true p q = eqb-true b 0x4f p ∙ ap sub_byte (sym (same ∙ p))
    by false p q = eqb-true b 0x50 q ∙ ap sub_byte (sym (same ∙ p))

pub sub_byte_leads : (f : Bool) → is_sub (sub_byte f) ≡ true
sub_byte_leads true = refl
sub_byte_leads false = refl

pub sub_byte_final : (f : Bool) → f ≡ (sub_byte f == 0x4f)
sub_byte_final true = refl
sub_byte_final false = refl

pub sub_byte_small : (f : Bool) → sub_byte f < 256
sub_byte_small true = omega arith
sub_byte_small false = omega arith

pub only_no_super : (z at : ℕ) (text : List ℕ) → Encodes (choose (z == 0) (done None) super_index) at text None → z ≡ 0
only_no_super z at text p =
    elim (sides (z == 0) p) [
      | inl (is, q) ↦ eqb-true z 0 is
      | inr (unequal, (f, r, i, e, q, (g, s, j, h, u, (n, same)))) ↦ absurd (cc same)
    ]

pub only_super : (z at : ℕ) (text : List ℕ) (index : ℕ) → z ≤ 1 → Encodes (choose (z == 0) (done None) super_index) at text (Some index) → z ≡ 1
only_super z at text index le p =
    elim (sides (z == 0) p) [
      | inl (is, (n, same)) ↦ absurd (cc same)
      | inr (unequal, q) ↦ (let ne = eqb-false z 0 unequal in omega (arith, le, ne))
    ]

pub super_lacks : (index : ℕ) → max_type_index < index → HasNone supertype (Some index)
super_lacks index high place text (first, after, z, e, p, q) =
    elim (sides (z == 0) q) [
      | inl (is, (n, same)) ↦ absurd (cc same)
      | inr (unequal, (f, r, i, e, u, (g, s, j, h, (small, (m, j_is)), (n, same)))) ↦ (
          let le = leb-true i max_type_index small in
          let index_is : index ≡ i = cc (same, j_is) in
          omega (arith, high, le, index_is)
          )
    ]

pub super_unwritable : (index : ℕ) {x : Option ℕ} → x ≡ Some index → max_type_index < index → IsUnwritable supertype SuperReason x (message.Malformed malformed.TypeIndex)
super_unwritable index {x} is high =
    subst (λ k. IsUnwritable supertype SuperReason k (message.Malformed malformed.TypeIndex)) (sym is) (record { none = super_lacks index high; reason = (refl, high) })

-- No type starts with the byte of a group.
sub_group : (c : ℕ) → is_sub c ≡ true → (c == 0x4e) ≡ false
sub_group c is = by (c == 0x4f) refl is
  where
    by : (x : Bool) → (c == 0x4f) ≡ x → (x || (c == 0x50)) ≡ true → (c == 0x4e) ≡ false
    by true p q = ap (λ z. z == 0x4e) (eqb-true c 0x4f p)
    by false p q = ap (λ z. z == 0x4e) (eqb-true c 0x50 q)

sub_leads : (place : ℕ) (text : List ℕ) (x : SubType) → Encodes sub_type place text x → Leads (λ b. b == 0x4e) false text
sub_leads place text x (true, (c, after, e, is), q) = (c, after, e, sub_group c is)
sub_leads place text x (false, l, q) = plain_leads_by (λ b. b == 0x4e) inner_not_group refl place text x q

pub implicit_leads : (place : ℕ) (text : List ℕ) (x : RecGroup) → Encodes implicit_group place text x → Leads (λ b. b == 0x4e) false text
implicit_leads place text x (first, rest, ty, e, q, (n, same)) =
    let (b, after, f, is) = sub_leads place first ty q in
    (b, after ++ rest, e ∙ ap (λ z. z ++ rest) f, is)
