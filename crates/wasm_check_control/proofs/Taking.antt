-- Operands that are taken O one by one.
use Rattle.std.proofs.Common.{◌≡◌, ℕ, Bool, true, false, if◌then◌else◌, suc, ◌+◌, ◌-◌, ◌<◌, List, [], ◌∷◌, ◌++◌, length, map, take, drop, reverse, get_or, Option, Some, None, refl, sym, ap, subst, ◌∙◌, append_assoc, arith}
use Rattle.std.specs.Option.{option_map, option_and_then}
use Rattle.std.proofs.lemmas.List.{get_or-map, length-map, map-append, reverse-append, take_more, take-append-drop, get_or-reverse, length-reverse}
use Rattle.std.proofs.Math.Seq.{drop-cons}
use Rattle.wasm_typing.specs.declared.value_type.ValueType.{ValueType}
use Rattle.wasm_typing.specs.Types.{Stack}
use Rattle.wasm_typing.specs.Matching.{TypeOrder, matches}
use Rattle.wasm_typing.specs.Checking.{state, pop}
use Rattle.wasm_typing.specs.Steps.{Frame, with_now, receives}
use Rattle.wasm_check_control.specs.State.{taken}

module _ (O : TypeOrder) where
  pub pop-append : (a b ks : Stack) (any : Bool) → pop O (a ++ b) ks any ≡ option_and_then (λ r. pop O b r any) (pop O a ks any)
  pop-append [] b ks any = refl
  pop-append (v ∷ a) b [] true = pop-append a b [] true
  pop-append (v ∷ a) b [] false = refl
  pop-append (v ∷ a) b (k ∷ ks) any = go (matches O k v) (pop-append a b ks any)
    where
      go : (test : Bool) → pop O (a ++ b) ks any ≡ option_and_then (λ r. pop O b r any) (pop O a ks any) →
          (if test then pop O (a ++ b) ks any else None) ≡ option_and_then (λ r. pop O b r any) (if test then pop O a ks any else None)
      go true e = e
      go false e = refl

  pub taken-append : (a b : Stack) (fs : List Frame) → taken O (a ++ b) fs ≡ option_and_then (taken O b) (taken O a fs)
  taken-append a b [] = refl
  taken-append a b (f ∷ outer) =
      ap (option_map (λ rest. with_now f (state rest f.now.unreachable f.now.set) ∷ outer)) (pop-append a b f.now.operands f.now.unreachable) ∙ go (pop O a f.now.operands f.now.unreachable)
    where
      go : (o : Option Stack) → option_map (λ rest. with_now f (state rest f.now.unreachable f.now.set) ∷ outer) (option_and_then (λ r. pop O b r f.now.unreachable) o) ≡
          option_and_then (taken O b) (option_map (λ rest. with_now f (state rest f.now.unreachable f.now.set) ∷ outer) o)
      go None = refl
      go (Some r) = refl

  -- the next of the reversed types
  next_is : (types : List ValueType) (i : ℕ) (d : ValueType) → i < length types →
      drop i (reverse types) ≡ get_or types (length types - 1 - i) d ∷ drop (suc i) (reverse types)
  next_is types i d p =
      drop-cons (reverse types) i d (subst (λ n. i < n) (sym (length-reverse types)) p) ∙
      ap (λ v. v ∷ drop (suc i) (reverse types)) (get_or-reverse types i d p)

  pub more_values : (types : List ValueType) (i : ℕ) (d : ValueType) (before now : List Frame) (next : Option (List Frame)) → i < length types →
      taken O (take i (reverse types)) before ≡ Some now → taken O (get_or types (length types - 1 - i) d ∷ []) now ≡ next →
      taken O (take (i + 1) (reverse types)) before ≡ next
  more_values types i d before now next p e f =
      ap (λ s. taken O s before) (take_more (reverse types) i d (subst (λ n. i < n) (sym (length-reverse types)) p) ∙
      ap (λ v. take i (reverse types) ++ v ∷ []) (get_or-reverse types i d p)) ∙
      taken-append (take i (reverse types)) (get_or types (length types - 1 - i) d ∷ []) before ∙
      ap (option_and_then (taken O (get_or types (length types - 1 - i) d ∷ []))) e ∙ f

  pub none_values : (types : List ValueType) (i : ℕ) (d : ValueType) (before now : List Frame) → i < length types →
      taken O (take i (reverse types)) before ≡ Some now → taken O (get_or types (length types - 1 - i) d ∷ []) now ≡ None →
      taken O (reverse types) before ≡ None
  none_values types i d before now p e f =
      ap (λ s. taken O s before) (sym (take-append-drop i (reverse types))) ∙ taken-append (take i (reverse types)) (drop i (reverse types)) before ∙
      ap (option_and_then (taken O (drop i (reverse types)))) e ∙
      ap (λ s. taken O s now) (next_is types i d p) ∙
      taken-append (get_or types (length types - 1 - i) d ∷ []) (drop (suc i) (reverse types)) now ∙ ap (option_and_then (taken O (drop (suc i) (reverse types)))) f

  -- The same for values that are converted to types.
  module _ {A : Type 0} (f : A → ValueType) where
    type_at : (types : List A) (i : ℕ) (d : A) → i < length types →
        get_or (map f types) (length (map f types) - 1 - i) (f d) ≡ f (get_or types (length types - 1 - i) d)
    type_at types i d p =
        ap (λ n. get_or (map f types) (n - 1 - i) (f d)) (length-map types f) ∙
        get_or-map f types (length types - 1 - i) d (f d) (omega (arith, p))

    mapped_length : (types : List A) (i : ℕ) → i < length types → i < length (map f types)
    mapped_length types i p = subst (λ n. i < n) (sym (length-map types f)) p

    pub more_taken : (types : List A) (i : ℕ) (d : A) (before now : List Frame) (next : Option (List Frame)) → i < length types →
        taken O (take i (reverse (map f types))) before ≡ Some now → taken O (f (get_or types (length types - 1 - i) d) ∷ []) now ≡ next →
        taken O (take (i + 1) (reverse (map f types))) before ≡ next
    more_taken types i d before now next p e g =
        more_values (map f types) i (f d) before now next (mapped_length types i p) e (ap (λ v. taken O (v ∷ []) now) (type_at types i d p) ∙ g)

    pub none_taken : (types : List A) (i : ℕ) (d : A) (before now : List Frame) → i < length types →
        taken O (take i (reverse (map f types))) before ≡ Some now → taken O (f (get_or types (length types - 1 - i) d) ∷ []) now ≡ None →
        taken O (reverse (map f types)) before ≡ None
    none_taken types i d before now p e g =
        none_values (map f types) i (f d) before now (mapped_length types i p) e (ap (λ v. taken O (v ∷ []) now) (type_at types i d p) ∙ g)

pub receives-append : (a b : Stack) (fs : List Frame) → receives a (receives b fs) ≡ receives (a ++ b) fs
receives-append a b [] = refl
receives-append a b (f ∷ outer) = ap (λ s. with_now f (state s f.now.unreachable f.now.set) ∷ outer) (sym (append_assoc a b f.now.operands))

pub more_given : {A : Type 0} (f : A → ValueType) (types : List A) (i : ℕ) (d : A) (fs : List Frame) → i < length types →
    receives (f (get_or types i d) ∷ []) (receives (reverse (map f (take i types))) fs) ≡ receives (reverse (map f (take (i + 1) types))) fs
more_given f types i d fs p =
    receives-append (f (get_or types i d) ∷ []) (reverse (map f (take i types))) fs ∙
    ap (λ s. receives s fs) (
    sym (reverse-append (map f (take i types)) (f (get_or types i d) ∷ [])) ∙
    ap reverse (sym (map-append f (take i types) (get_or types i d ∷ []))) ∙
    ap (λ l. reverse (map f l)) (sym (take_more types i d p)))
