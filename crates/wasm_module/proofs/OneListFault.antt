use Rattle.std.proofs.Common.{◌≡◌, ◌<◌, ◌⊎◌, ℕ, zero, suc, List, length, refl, sym, subst, ap, inl, inr, arith}
use Rattle.std.specs.List.{All}
use Rattle.wasm_below.specs.declared.error.Error.{Error}
use Rattle.wasm_below.specs.declared.message.Message.{Message}
use Rattle.wasm_below.specs.Fault.{DeterminesRefusal}
use Rattle.wasm_below.specs.Number.{EncodesUnsigned}
use Rattle.wasm_below.specs.Sequence.{PrefixCode}
use Rattle.wasm_below.specs.Source.{Reader, U32Fault, IsRefusal, HasRead}
use Rattle.wasm_module.specs.Items.{ItemsOccur, IsList}
use Rattle.wasm_module.specs.Refusals.{FailsWith, HasItemsTo, ListFault}
use Rattle.wasm_module.specs.declared.fault.ModuleFault.{ModuleFault}
use Rattle.wasm_module.specs.declared.fault.ModuleFault.TheVariants as fault
use Rattle.wasm_module.proofs.NamedFunctions.{not_both}
use Rattle.wasm_module.proofs.NextItems.{all_at, one_read, same_items, more_items, next_item}
use Rattle.wasm_module.proofs.OneFault.{one_error}

pub one_refusal : (P : Error → Type 0) → ((e f : Error) → P e → P f → e ≡ f) → (f g : ModuleFault) → FailsWith P f → FailsWith P g → f ≡ g
one_refusal P one (fault.Refused e) (fault.Refused f) p q = ap (λ x. fault.Refused x) (one e f p q)
one_refusal P one (fault.Refused e) (fault.NotModule said) p q = absurd q
one_refusal P one (fault.Refused e) (fault.ImportKind byte offset) p q = absurd q
one_refusal P one (fault.Refused e) (fault.TypeKind byte offset) p q = absurd q
one_refusal P one (fault.Refused e) fault.Memory p q = absurd q
one_refusal P one (fault.NotModule said) g p q = absurd p
one_refusal P one (fault.ImportKind byte offset) g p q = absurd p
one_refusal P one (fault.TypeKind byte offset) g p q = absurd p
one_refusal P one fault.Memory g p q = absurd p

pub no_refusal : (P : Error → Type 0) → ((e : Error) → P e → ⊥) → (f : ModuleFault) → FailsWith P f → ⊥
no_refusal P none (fault.Refused e) p = none e p
no_refusal P none (fault.NotModule said) p = p
no_refusal P none (fault.ImportKind byte offset) p = p
no_refusal P none (fault.TypeKind byte offset) p = p
no_refusal P none fault.Memory p = p

order_by : (n m : ℕ) → (n < m) ⊎ ((n ≡ m) ⊎ (m < n)) → (suc n < suc m) ⊎ ((suc n ≡ suc m) ⊎ (suc m < suc n))
order_by n m (inl less) = inl (omega (arith, less))
order_by n m (inr (inl same)) = inr (inl (ap suc same))
order_by n m (inr (inr more)) = inr (inr (omega (arith, more)))

pub order : (n m : ℕ) → (n < m) ⊎ ((n ≡ m) ⊎ (m < n))
order zero zero = inr (inl refl)
order zero (suc m) = inl (omega (arith))
order (suc n) zero = inr (inr (omega (arith)))
order (suc n) (suc m) = order_by n m (order n m)

pub refused_there : {X : Type 0} (P : List ℕ → X → Type 0) (K : X → Type 0) (e : Error) (r : Reader) → IsRefusal P e r →
    (x : X) → (next : Reader) → HasRead P x r next → K x → ⊥
refused_there P K e r refused x next reads known = not_both P e r next x refused reads

module _ {X : Type 0} (P : List ℕ → X → Type 0) (code : PrefixCode P) (K : X → Type 0) where
  pub next_there : (r a b : Reader) (xs ys : List X) → ItemsOccur P r xs a → ItemsOccur P r ys b → All K ys → length xs < length ys →
      (y : X) × (next : Reader) × HasRead P y a next × K y
  next_there r a b xs ys occur occur' known less =
      let (y, zs, next, is, reads) = more_items P code r xs ys a b occur occur' less in (y, next, reads, all_at K xs y zs ys is known)

  place_by : (r a b : Reader) (xs ys : List X) → ItemsOccur P r xs a → ItemsOccur P r ys b → All K xs → All K ys →
      ((x : X) → (next : Reader) → HasRead P x a next → K x → ⊥) → ((x : X) → (next : Reader) → HasRead P x b next → K x → ⊥) →
      (length xs < length ys) ⊎ ((length xs ≡ length ys) ⊎ (length ys < length xs)) → a ≡ b
  place_by r a b xs ys occur occur' known known' stops stops' (inl less) =
      let (y, next, reads, is) = next_there r a b xs ys occur occur' known' less in absurd (stops y next reads is)
  place_by r a b xs ys occur occur' known known' stops stops' (inr (inl same)) = (same_items P code r xs ys a b occur occur' same).1
  place_by r a b xs ys occur occur' known known' stops stops' (inr (inr more)) =
      let (x, next, reads, is) = next_there r b a ys xs occur' occur known more in absurd (stops' x next reads is)

  pub one_place : (r a b : Reader) (xs ys : List X) → ItemsOccur P r xs a → ItemsOccur P r ys b → All K xs → All K ys →
      ((x : X) → (next : Reader) → HasRead P x a next → K x → ⊥) → ((x : X) → (next : Reader) → HasRead P x b next → K x → ⊥) → a ≡ b
  one_place r a b xs ys occur occur' known known' stops stops' =
      place_by r a b xs ys occur occur' known known' stops stops' (order (length xs) (length ys))

  module _ (numbers : PrefixCode (EncodesUnsigned 32)) where
    pub one_stop : (contents a b : Reader) → HasItemsTo P K contents a → HasItemsTo P K contents b →
        ((x : X) → (next : Reader) → HasRead P x a next → K x → ⊥) → ((x : X) → (next : Reader) → HasRead P x b next → K x → ⊥) → a ≡ b
    one_stop contents a b h k stops stops' =
        let same = (one_read (EncodesUnsigned 32) numbers contents h.first k.first h.announced k.announced h.count k.count).1 in
        one_place h.first a b h.items k.items h.occur (subst (λ z. ItemsOccur P z k.items b) (sym same) k.occur) h.known k.known stops stops'

    pub no_stop : (contents a : Reader) (ys : List X) → HasItemsTo P K contents a → IsList P contents ys → All K ys →
        ((x : X) → (next : Reader) → HasRead P x a next → K x → ⊥) → ⊥
    no_stop contents a ys h list known stops =
        let (y, zs, next, is, reads) = next_item P code numbers contents h.first a h.announced h.items ys h.count h.occur h.fewer list in
        stops y next reads (all_at K h.items y zs ys is known)

    module _ (Fault : Message → Reader → ℕ → Type 0) (u32 : DeterminesRefusal U32Fault) (determines : DeterminesRefusal Fault) where
      pub one_list_fault : (e f : Error) (contents : Reader) → ListFault P Fault K e contents → ListFault P Fault K f contents → e ≡ f
      one_list_fault e f contents (inl p) (inl q) = one_error e f (u32 e.message f.message contents e.offset f.offset p.1 q.1)
      one_list_fault e f contents (inl p) (inr (b, k, q)) = absurd (not_both (EncodesUnsigned 32) e contents k.first k.announced p.0 k.count)
      one_list_fault e f contents (inr (a, h, p)) (inl q) = absurd (not_both (EncodesUnsigned 32) f contents h.first h.announced q.0 h.count)
      one_list_fault e f contents (inr (a, h, p)) (inr (b, k, q)) =
          let same = one_stop contents a b h k (refused_there P K e a p.0) (refused_there P K f b q.0) in
          one_error e f (determines e.message f.message b e.offset f.offset (subst (λ z. Fault e.message z e.offset) same p.1) q.1)

    pub no_list_fault : (Fault : Message → Reader → ℕ → Type 0) (e : Error) (contents : Reader) (ys : List X) → ListFault P Fault K e contents →
        IsList P contents ys → All K ys → ⊥
    no_list_fault Fault e contents ys (inl p) list known = not_both (EncodesUnsigned 32) e contents list.first (length ys) p.0 list.count
    no_list_fault Fault e contents ys (inr (a, h, p)) list known = no_stop contents a ys h list known (refused_there P K e a p.0)
