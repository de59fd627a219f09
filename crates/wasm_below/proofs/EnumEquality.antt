-- Derived equality of an enum is exact if the equality of its fields is.
use Rattle.std.proofs.Common.{◌≡◌, Bool, true, false, List, [], ◌∷◌, inl, inr, refl, ap, ◌∙◌}
use Rattle.std.proofs.lemmas.Bool.Decides.{Decides-and, Decides-like}
use mathlib.Core.Bool.{◌&&◌}
use denote.Struct.Field.{Field}
use denote.Enum.Bare.{Bare, sameb, same_true, true_same}
use denote.Enum.Compared.{Each, by}
use denote.Enum.Declared.{Declared, Record, values_one}
use Rattle.wasm_below.specs.Equality.{IsExact}

-- Each function decides equality of the fields of its variant.
abbrev pub AreExact : (Fss : List (List Field)) → Each Bool Fss → Type 0
AreExact [] each = Unit {0}
AreExact (Fs ∷ Fss) each = IsExact each.0 × AreExact Fss each.1

choice_exact : (Fss : List (List Field)) (each : Each Bool Fss) → AreExact Fss each → IsExact (by false false Fss each)
choice_exact [] each h c d = absurd c
choice_exact (Fs ∷ Fss) each h (inl x) (inl y) = let one = h.0 x y in (λ e. ap inl (one.0 e), λ e. one.1 (cc e))
choice_exact (Fs ∷ Fss) each h (inl x) (inr d) = (λ e. absurd (cc e), λ e. absurd (cc e))
choice_exact (Fs ∷ Fss) each h (inr c) (inl y) = (λ e. absurd (cc e), λ e. absurd (cc e))
choice_exact (Fs ∷ Fss) each h (inr c) (inr d) = let others = choice_exact Fss each.1 h.1 c d in (λ e. ap inr (others.0 e), λ e. others.1 (cc e))

-- An enum whose variants have fields.
pub enum_exact : (N : Record) (each : Each Bool N.parts) → AreExact N.parts each → IsExact (λ (x y : N.D). by false false N.parts each (N.as_values x) (N.as_values y))
enum_exact N each h x y =
    let d = choice_exact N.parts each h (N.as_values x) (N.as_values y) in
    (λ e. values_one N x y (d.0 e), λ e. d.1 (ap N.as_values e))

-- An enum whose variants have no fields.
pub bare_exact : (D : Declared) → Bare D.parts → IsExact (sameb D)
bare_exact D bare x y = (same_true D bare x y, true_same D x y)

infixr 20 ◌▸◌
abbrev pub ◌▸◌ : {A B : Type 0} → A → B → A × B
a ▸ b = (a, b)

pub none : IsExact (λ (x y : Unit {0}). true)
none x y = (λ e. refl, λ e. refl)

pub one : {A : Type 0} (E : A → A → Bool) → IsExact E → IsExact (λ (x y : A × Unit {0}). E x.0 y.0)
one {A} E h x y = let d = h x.0 y.0 in (λ e. ap (λ (a : A). (a, tt)) (d.0 e), λ e. d.1 (ap (λ (p : A × Unit {0}). p.0) e))

pub two : {A B : Type 0} (E : A → A → Bool) (F : B → B → Bool) → IsExact E → IsExact F → IsExact (λ (x y : A × (B × Unit {0})). E x.0 y.0 && F x.1.0 y.1.0)
two {A} {B} E F h k x y =
    Decides-like (E x.0 y.0 && F x.1.0 y.1.0)
    (λ (p : (x.0 ≡ y.0) × (x.1.0 ≡ y.1.0)). ap (λ (a : A). (a, (x.1.0, tt))) p.0 ∙ ap (λ (b : B). (y.0, (b, tt))) p.1)
    (λ e. (ap (λ (p : A × (B × Unit {0})). p.0) e, ap (λ (p : A × (B × Unit {0})). p.1.0) e))
    (Decides-and (E x.0 y.0) (F x.1.0 y.1.0) (h x.0 y.0) (k x.1.0 y.1.0))

pub three : {A B C : Type 0} (E : A → A → Bool) (F : B → B → Bool) (G : C → C → Bool) → IsExact E → IsExact F → IsExact G →
    IsExact (λ (x y : A × (B × (C × Unit {0}))). E x.0 y.0 && (F x.1.0 y.1.0 && G x.1.1.0 y.1.1.0))
three {A} {B} {C} E F G h k l x y =
    Decides-like (E x.0 y.0 && (F x.1.0 y.1.0 && G x.1.1.0 y.1.1.0))
    (λ (p : (x.0 ≡ y.0) × ((x.1.0 ≡ y.1.0) × (x.1.1.0 ≡ y.1.1.0))). ap (λ (a : A). (a, (x.1.0, (x.1.1.0, tt)))) p.0 ∙
    ap (λ (b : B). (y.0, (b, (x.1.1.0, tt)))) p.1.0 ∙ ap (λ (c : C). (y.0, (y.1.0, (c, tt)))) p.1.1)
    (λ e. (ap (λ (p : A × (B × (C × Unit {0}))). p.0) e, (ap (λ (p : A × (B × (C × Unit {0}))). p.1.0) e, ap (λ (p : A × (B × (C × Unit {0}))). p.1.1.0) e)))
    (Decides-and (E x.0 y.0) (F x.1.0 y.1.0 && G x.1.1.0 y.1.1.0) (h x.0 y.0)
    (Decides-and (F x.1.0 y.1.0) (G x.1.1.0 y.1.1.0) (k x.1.0 y.1.0) (l x.1.1.0 y.1.1.0)))
