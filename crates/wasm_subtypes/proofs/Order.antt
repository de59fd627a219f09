-- Matching by identities and supertypes is a preorder that keeps kinds, and the test decides it.
use Rattle.std.proofs.Common.{◌≡◌, ℕ, zero, suc, ◌≤◌, Bool, true, false, if◌then◌else◌, Option, Some, None, refl, ap, ◌∙◌, arith}
use Rattle.std.specs.Prelude.{nat_eq}
use Rattle.std.specs.Option.{option_map}
use Rattle.std.proofs.lemmas.Bool.{eq-eqb, eqb-true}
use Rattle.wasm_typing.specs.Matching.{CompositeKind, IsOrder}
use Rattle.wasm_subtypes.specs.Descent.{Descends, equal, declared, some_passes, descends_within, descends, AreDeclared}

-- What an identity of an optional type is the identity of.
found : (identity : ℕ → ℕ) (o p : Option ℕ) (s : ℕ) → option_map identity o ≡ option_map identity p → p ≡ Some s → (t : ℕ) × (o ≡ Some t) × (identity t ≡ identity s)
found identity None None s e f = absurd (cc f)
found identity None (Some q) s e f = absurd (cc e)
found identity (Some t) None s e f = absurd (cc f)
found identity (Some t) (Some q) s e f =
    let g : q ≡ s = cc f in
    let h : identity t ≡ identity q = cc e in
    (t, refl, h ∙ ap identity g)

module _ (identity : ℕ → ℕ) (super : ℕ → Option ℕ) (kind : ℕ → Option CompositeKind) (are : AreDeclared identity super kind) where
  instead : (i j k : ℕ) → identity i ≡ identity j → Descends identity super j k → Descends identity super i k
  instead i j k e (equal f) = equal (e ∙ f)
  instead i j k e (declared {s = s} f d) =
      let m = found identity (super i) (super j) s (are.supers i j e) f in
      declared m.1 (instead m.0 s k m.2 d)

  through : (i j k : ℕ) → Descends identity super i j → Descends identity super j k → Descends identity super i k
  through i j k (equal e) d = instead i j k e d
  through i j k (declared {s = s} f c) d = declared f (through s j k c d)

  same_kind : (i j : ℕ) → Descends identity super i j → kind i ≡ kind j
  same_kind i j (equal e) = are.kinds i j e
  same_kind i j (declared {s = s} f d) = are.super_kinds i s f ∙ same_kind s j d

  of_test : (n i j : ℕ) → descends_within n identity super i j ≡ true → Descends identity super i j
  of_test zero i j e = equal (eqb-true (identity i) (identity j) e)
  of_test (suc n) i j e = go (λ s. of_test n s j) (nat_eq (identity i) (identity j)) (super i) refl refl e
    where
      go : ((s : ℕ) → descends_within n identity super s j ≡ true → Descends identity super s j) → (b : Bool) (o : Option ℕ) → nat_eq (identity i) (identity j) ≡ b → super i ≡ o →
          (if b then true else some_passes (λ s. descends_within n identity super s j) o) ≡ true → Descends identity super i j
      go rest true o p q e = equal (eqb-true (identity i) (identity j) p)
      go rest false None p q e = absurd (cc e)
      go rest false (Some s) p q e = declared q (rest s e)

  to_test : (n i j : ℕ) → i ≤ n → Descends identity super i j → descends_within n identity super i j ≡ true
  to_test zero i j p (equal e) = eq-eqb (identity i) (identity j) e
  to_test zero i j p (declared {s = s} f d) = absurd (let q = are.earlier i s f in omega (arith, p, q))
  to_test (suc n) i j p (equal e) = ap (λ b. if b then true else some_passes (λ s. descends_within n identity super s j) (super i)) (eq-eqb (identity i) (identity j) e)
  to_test (suc n) i j p (declared {s = s} f d) =
      go (nat_eq (identity i) (identity j)) (to_test n s j (let q = are.earlier i s f in omega (arith, p, q)) d)
    where
      go : (b : Bool) → descends_within n identity super s j ≡ true → (if b then true else some_passes (λ s. descends_within n identity super s j) (super i)) ≡ true
      go true t = refl
      go false t = ap (some_passes (λ s. descends_within n identity super s j)) f ∙ t

  -- The test decides the relation.
  pub decides : (i j : ℕ) → (descends identity super i j ≡ true → Descends identity super i j) × (Descends identity super i j → descends identity super i j ≡ true)
  decides i j = (of_test i i j, to_test i i j (omega arith))

  pub is_order : IsOrder (record { subtype = descends identity super; kind = kind })
  is_order = record {
    itself = λ i. to_test i i i (omega arith) (equal refl);
    through = λ i j k e f. to_test i i k (omega arith) (through i j k (of_test i i j e) (of_test j j k f));
    kinds = λ i j e. same_kind i j (of_test i i j e);
  }
