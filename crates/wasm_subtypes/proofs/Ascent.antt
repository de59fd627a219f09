-- The test by way of supertypes, one by one.
use Rattle.std.proofs.Common.{◌≡◌, ℕ, Bool, true, false, Option, Some, None, refl, sym, subst, ◌∙◌}
use Rattle.wasm_typing.specs.Matching.{IsOrder}
use Rattle.wasm_subtypes.specs.Descent.{Descends, equal, declared}
use Rattle.wasm_subtypes.specs.Types.{identity, supertype, kind, order_of, AreOrdered}
use Rattle.wasm_subtypes.specs.declared.defined.Defined.{Defined}
use Rattle.wasm_subtypes.proofs.Order.{decides, is_order}
use Rattle.std.proofs.Common.{List}

module _ (f : ℕ → ℕ) (g : ℕ → Option ℕ) (i j : ℕ) (differ : f i ≡ f j → ⊥) where
  pub ends_here : g i ≡ None → Descends f g i j → ⊥
  ends_here none (equal e) = differ e
  ends_here none (declared e d) = cc (sym none ∙ e)

  pub goes_up : (s : ℕ) → g i ≡ Some s → Descends f g i j → Descends f g s j
  goes_up s is (equal e) = absurd (differ e)
  goes_up s is (declared {s = t} e d) =
      let same : t ≡ s = cc (sym e ∙ is) in
      subst (λ x. Descends f g x j) same d

pub ordered : (types : List Defined) → AreOrdered types → IsOrder (order_of types)
ordered types are = is_order (identity types) (supertype types) (kind types) are

pub decided : (types : List Defined) → AreOrdered types → (i j : ℕ) →
    ((order_of types).subtype i j ≡ true → Descends (identity types) (supertype types) i j) × (Descends (identity types) (supertype types) i j → (order_of types).subtype i j ≡ true)
decided types are i j = decides (identity types) (supertype types) (kind types) are i j

pub found_true : (types : List Defined) → AreOrdered types → (i j : ℕ) → Descends (identity types) (supertype types) i j → true ≡ (order_of types).subtype i j
found_true types are i j d = sym ((decided types are i j).1 d)

pub found_false : (types : List Defined) → AreOrdered types → (i j : ℕ) → (Descends (identity types) (supertype types) i j → ⊥) → false ≡ (order_of types).subtype i j
found_false types are i j none = go ((order_of types).subtype i j) refl
  where
    go : (b : Bool) → (order_of types).subtype i j ≡ b → false ≡ (order_of types).subtype i j
    go true e = absurd (none ((decided types are i j).0 e))
    go false e = sym e
