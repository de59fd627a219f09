-- The entries of the groups of a module: what they find, and one group more.
use Rattle.std.proofs.Common.{◌≡◌, ◌≢◌, ℕ, zero, suc, ◌+◌, ◌-◌, ◌*◌, ◌<◌, ◌≤◌, Bool, true, false, cond, List, [], ◌∷◌, ◌++◌, length, Option, Some, None, ◌⊎◌, inl, inr, refl, sym, ap, subst, ◌∙◌, arith}
use Rattle.std.specs.Prelude.{nat_lt, if◌then◌else◌}
use Rattle.std.specs.Option.{option_map}
use Rattle.std.specs.List.{slice_get}
use Rattle.std.specs.Global.{Vec}
use Rattle.std.specs.Map.{lookup}
use Rattle.std.specs.Ordering.{is_eq, nat_cmp}
use Rattle.std.specs.Cmp.Lexicographic.{slice_cmp}
use Rattle.std.specs.declared.cmp.Ordering.{Ordering}
use Rattle.std.specs.declared.cmp.Ordering.TheVariants.{Less, Equal, Greater}
use Rattle.std.proofs.lemmas.Bool.{lt-ltb, ltb-true, cases_lt, cases_Bool}
use Rattle.std.proofs.lemmas.Map.Entries.{place_from_lookup}
use Rattle.std.proofs.lemmas.Map.Lookups.{exact_bytes}
use Rattle.std.proofs.lemmas.List.{append-nil}
use Rattle.wasm_types.specs.declared.recursive.SubType.{SubType}
use Rattle.wasm_subtypes.specs.Alike.{Alike, Each}
use Rattle.wasm_subtypes.specs.Types.{identity_of, identity, SameUse, IsSameMember, IsOutside, IsSameGroup, IsFirstEqual, placed, Added}
use Rattle.wasm_subtypes.specs.Keys.{use_number, group_numbers, start_of, HasNumbers, IsGroupAt, AreIndexed, Puts}
use Rattle.wasm_subtypes.specs.declared.defined.Defined.{Defined}
use Rattle.wasm_subtypes.proofs.Adding.{at_within, at_there, at_past, at_before, at_after, at_placed, length_placed, length_both}
use Rattle.wasm_subtypes.proofs.Comparing.{each_length}
use Rattle.wasm_subtypes.proofs.Numbers.{group_to, group_from}

not_true : (b : Bool) → (b ≡ true → ⊥) → b ≡ false
not_true true n = absurd (n refl)
not_true false n = refl

-- Uses of type indices.
before : (types : List Defined) (start x : ℕ) → x < start → use_number types start x ≡ 2 * identity types x
before types start x p = ap (λ b. if b then 2 * identity types x else 2 * (x - start) + 1) (lt-ltb x start p)

inside : (types : List Defined) (start x : ℕ) → start ≤ x → use_number types start x ≡ 2 * (x - start) + 1
inside types start x p =
    ap (λ b. if b then 2 * identity types x else 2 * (x - start) + 1) (not_true (nat_lt x start) (λ e. let q = ltb-true x start e in omega (arith, p, q)))

pub use_to : (types : List Defined) (start x y : ℕ) → SameUse types start x y → use_number types start x ≡ use_number types (length types) y
use_to types start x y (inl (p, q, e)) = before types start x q ∙ ap (λ n. 2 * n) e ∙ sym (before types (length types) y p)
use_to types start x y (inr (p, q, e)) = inside types start x q ∙ ap (λ n. 2 * n + 1) e ∙ sym (inside types (length types) y p)

pub use_from : (types : List Defined) (start x y : ℕ) → use_number types start x ≡ use_number types (length types) y → SameUse types start x y
use_from types start x y e = go (cases_lt x start) (cases_lt y (length types))
  where
    go : (x < start) ⊎ (start ≤ x) → (y < length types) ⊎ (length types ≤ y) → SameUse types start x y
    go (inl p) (inl q) =
        let n : 2 * identity types x ≡ 2 * identity types y = sym (before types start x p) ∙ e ∙ before types (length types) y q in
        inl (q, p, omega (arith, n))
    go (inl p) (inr q) =
        let n : 2 * identity types x ≡ 2 * (y - length types) + 1 = sym (before types start x p) ∙ e ∙ inside types (length types) y q in
        absurd (omega (arith, n))
    go (inr p) (inl q) =
        let n : 2 * (x - start) + 1 ≡ 2 * identity types y = sym (inside types start x p) ∙ e ∙ before types (length types) y q in
        absurd (omega (arith, n))
    go (inr p) (inr q) =
        let n : 2 * (x - start) + 1 ≡ 2 * (y - length types) + 1 = sym (inside types start x p) ∙ e ∙ inside types (length types) y q in
        inr (q, p, omega (arith, n))

-- Two lists, by place.
each_at : {A : Type 0} (P : A → A → Type 0) (as_ bs : List A) → Each P as_ bs → (r : ℕ) (a b : A) → slice_get as_ r ≡ Some a → slice_get bs r ≡ Some b → P a b
each_at P [] bs e r a b p q = absurd (cc p)
each_at P (x ∷ as_) [] e r a b p q = absurd e
each_at P (x ∷ as_) (y ∷ bs) e zero a b p q = subst (λ z. P z b) (let n : x ≡ a = cc p in n) (subst (P x) (let n : y ≡ b = cc q in n) e.0)
each_at P (x ∷ as_) (y ∷ bs) e (suc r) a b p q = each_at P as_ bs e.1 r a b p q

each_by : {A : Type 0} (P : A → A → Type 0) (as_ bs : List A) → length as_ ≡ length bs →
    ((r : ℕ) (a b : A) → slice_get as_ r ≡ Some a → slice_get bs r ≡ Some b → P a b) → Each P as_ bs
each_by P [] [] n all = tt
each_by P [] (y ∷ bs) n all = absurd (omega (arith, n))
each_by P (x ∷ as_) [] n all = absurd (omega (arith, n))
each_by P (x ∷ as_) (y ∷ bs) n all = (all zero x y refl refl, each_by P as_ bs (omega (arith, n)) (λ r a b p q. all (suc r) a b p q))

outside_not : (start : ℕ) (o : Option Defined) (d : Defined) → o ≡ Some d → IsOutside start o → d.first ≡ start → ⊥
outside_not start None d e out f = absurd (cc e)
outside_not start (Some c) d e out f = let n : c ≡ d = cc e in out (ap (λ (z : Defined). z.first) n ∙ f)

member_first : (types : List Defined) (start i : ℕ) (ty : SubType) (o : Option Defined) → IsSameMember types start i ty o →
    (d : Defined) × (o ≡ Some d) × (d.first ≡ start) × (d.identity ≡ i) × Alike (SameUse types start) d.ty ty
member_first types start i ty None m = absurd m
member_first types start i ty (Some d) m = (d, refl, m.0, m.1, m.2)

-- A group, and one after all types.
module _ (types : List Defined) (start : ℕ) (group new : List SubType) (is : IsGroupAt types start group) where
  same_each : IsSameGroup types start new → Each (Alike (SameUse types start)) group new
  same_each same = each_by (Alike (SameUse types start)) group new (size (cases_lt (length group) (length new)) (cases_lt (length new) (length group))) one
    where
      size : (length group < length new) ⊎ (length new ≤ length group) → (length new < length group) ⊎ (length group ≤ length new) → length group ≡ length new
      size (inl p) k =
          let t = at_there new (length group) p in
          let m = member_first types start (start + length group) t.0 (slice_get types (start + length group)) (same.members (length group) t.0 t.1) in
          absurd (outside_not start (slice_get types (start + length group)) m.0 m.1 is.ends m.2)
      size (inr p) (inl q) =
          let t = at_there group (length new) q in
          let m = is.members (length new) t.0 t.1 in
          absurd (outside_not start (slice_get types (start + length new)) m.0 m.1 same.ends m.3)
      size (inr p) (inr q) = omega (arith, p, q)

      one : (r : ℕ) (a b : SubType) → slice_get group r ≡ Some a → slice_get new r ≡ Some b → Alike (SameUse types start) a b
      one r a b p q =
          let m = is.members r a p in
          let s = member_first types start (start + r) b (slice_get types (start + r)) (same.members r b q) in
          let d : s.0 ≡ m.0 = let n = sym s.1 ∙ m.1 in cc n in
          subst (λ z. Alike (SameUse types start) z b) (ap (λ (z : Defined). z.ty) d ∙ m.2) s.4

  each_same : Each (Alike (SameUse types start)) group new → IsSameGroup types start new
  each_same e =
      let n = each_length (Alike (SameUse types start)) group new e in record {
        members = λ r ty p.
            let w = at_within new r ty p in
            let t = at_there group r (omega (arith, w, n)) in
            let m = is.members r t.0 t.1 in
            subst (IsSameMember types start (start + r) ty) (sym m.1)
            (m.3, m.4, subst (λ z. Alike (SameUse types start) z ty) (sym m.2) (each_at (Alike (SameUse types start)) group new e r t.0 ty t.1 p));
        ends = subst (λ k. IsOutside start (slice_get types (start + k))) n is.ends;
      }

  module _ (f : ℕ → ℕ) (f_is : (x : ℕ) → f x ≡ use_number types start x) where
    to : (x y : ℕ) → SameUse types start x y → f x ≡ use_number types (length types) y
    to x y e = f_is x ∙ use_to types start x y e

    from : (x y : ℕ) → f x ≡ use_number types (length types) y → SameUse types start x y
    from x y e = use_from types start x y (sym (f_is x) ∙ e)

    pub same_numbers : IsSameGroup types start new → group_numbers f group ≡ group_numbers (use_number types (length types)) new
    same_numbers same = group_to (SameUse types start) f (use_number types (length types)) to from group new (same_each same)

    pub numbers_same : group_numbers f group ≡ group_numbers (use_number types (length types)) new → IsSameGroup types start new
    numbers_same e = each_same (group_from (SameUse types start) f (use_number types (length types)) to from group new e)

-- What the entries find.
module _ (types : List Defined) (entries : List (Vec ℕ × ℕ)) (are : AreIndexed types entries) (ty : SubType) (others : List SubType) where
  abbrev new : List SubType
  new = ty ∷ others

  abbrev key : List ℕ
  key = group_numbers (use_number types (length types)) new

  kept : (t : ℕ) → IsSameGroup types t new → start_of key entries ≡ Some t
  kept t same =
      let n : t + 0 ≡ t = omega arith in
      let m = member_first types t (t + 0) ty (slice_get types (t + 0)) (same.members 0 ty refl) in
      let k = are.starts t m.0 (ap (slice_get types) (sym n) ∙ m.1) m.2 (m.3 ∙ n) in
      let h = k.3 in
      ap (λ q. start_of q entries) (sym (h.2 ∙ same_numbers types t k.0 new k.1 h.0 h.1 same)) ∙ k.4

  pub first_found : (start : ℕ) → start_of key entries ≡ Some start → IsFirstEqual types new start
  first_found start e =
      let h = are.hits key start e in
      let p = h.0 in record {
        within = omega (arith, p);
        found = λ q. numbers_same types start h.1 new h.2 h.3.0 h.3.1 (sym h.3.2);
        before = λ t p same. (let k : t ≡ start = let n = sym (kept t same) ∙ e in cc n in omega (arith, p, k));
      }

  pub first_itself : start_of key entries ≡ None → IsFirstEqual types new (length types)
  first_itself e = record {
    within = omega arith;
    found = λ q. absurd (omega (arith, q));
    before = λ t p same. absurd (let n = sym (kept t same) ∙ e in cc n);
  }

-- A group without types: the first equal group.
module _ (types : List Defined) where
  is_same : (t : ℕ) → IsOutside t (slice_get types t) → IsSameGroup types t []
  is_same t out = record { members = λ r ty e. absurd (cc e); ends = subst (λ k. IsOutside t (slice_get types k)) (let n : t ≡ t + 0 = omega arith in n) out }

  is_other : (t : ℕ) (o : Option Defined) → slice_get types t ≡ o → (IsOutside t o → ⊥) → IsSameGroup types t [] → ⊥
  is_other t o e never same = never (subst (IsOutside t) e (subst (λ k. IsOutside t (slice_get types k)) (let n : t + 0 ≡ t = omega arith in n) same.ends))

  tested : (t : ℕ) (o : Option Defined) → (IsOutside t o) ⊎ (IsOutside t o → ⊥)
  tested t None = inl tt
  tested t (Some d) = go (nat_lt d.first t) (nat_lt t d.first) refl refl
    where
      go : (a b : Bool) → nat_lt d.first t ≡ a → nat_lt t d.first ≡ b → (d.first ≢ t) ⊎ (d.first ≢ t → ⊥)
      go true b p q = inl (λ e. let n = ltb-true d.first t p in omega (arith, n, e))
      go false true p q = inl (λ e. let n = ltb-true t d.first q in omega (arith, n, e))
      go false false p q = inr (λ never. never (equal (cases_lt d.first t) (cases_lt t d.first)))
        where
          equal : (d.first < t) ⊎ (t ≤ d.first) → (t < d.first) ⊎ (d.first ≤ t) → d.first ≡ t
          equal (inl l) r = absurd (cc (sym (lt-ltb d.first t l) ∙ p))
          equal (inr l) (inl r) = absurd (cc (sym (lt-ltb t d.first r) ∙ q))
          equal (inr l) (inr r) = omega (arith, l, r)

  not_before : (t : ℕ) → ((s : ℕ) → s < t → IsSameGroup types s [] → ⊥) → (IsOutside t (slice_get types t) → ⊥) →
      (s : ℕ) → s < suc t → IsSameGroup types s [] → (s < t) ⊎ (t ≤ s) → ⊥
  not_before t none never s p same (inl q) = none s q same
  not_before t none never s p same (inr q) = let k : s ≡ t = omega (arith, p, q) in is_other t (slice_get types t) refl never (subst (λ j. IsSameGroup types j []) k same)

  either : {P Q R : Type 0} → P ⊎ Q → (P → R) → (Q → R) → R
  either (inl p) f g = f p
  either (inr q) f g = g q

  search_from : (left t : ℕ) → length types ≡ left + t → ((s : ℕ) → s < t → IsSameGroup types s [] → ⊥) → (start : ℕ) × IsFirstEqual types [] start
  search_from zero t n none = (t, record { within = omega (arith, n); found = λ p. absurd (omega (arith, n, p)); before = none })
  search_from (suc left) t n none =
      either (tested t (slice_get types t)) (λ out. (t, record { within = omega (arith, n); found = λ p. is_same t out; before = none }))
      (λ never. search_from left (suc t) (omega (arith, n)) (λ s p same. not_before t none never s p same (cases_lt s t)))

  pub first_of_empty : (start : ℕ) × IsFirstEqual types [] start
  first_of_empty = search_from (length types) 0 (omega arith) (λ t p. absurd (omega (arith, p)))

-- The entries have the group that starts at an index.
abbrev Has : List Defined → List (Vec ℕ × ℕ) → ℕ → Type 0
Has types entries t =
    (g : List SubType) × IsGroupAt types t g × (numbers : List ℕ) × HasNumbers types t g numbers × (start_of numbers entries ≡ Some t)

-- The key that is found has the same numbers.
is_key : (numbers : List ℕ) (k : Vec ℕ) → is_eq (slice_cmp nat_cmp numbers k.items) ≡ true → numbers ≡ k.items
is_key numbers k e = exact_bytes numbers k.items (equal (slice_cmp nat_cmp numbers k.items) e)
  where
    equal : (r : Ordering) → is_eq r ≡ true → r ≡ Equal
    equal Less e = absurd (cc e)
    equal Equal e = refl
    equal Greater e = absurd (cc e)

found_key : (numbers : List ℕ) (entries : List (Vec ℕ × ℕ)) (t : ℕ) → start_of numbers entries ≡ Some t → (k : Vec ℕ) × (numbers ≡ k.items)
found_key numbers entries t e =
    let h = place_from_lookup (λ (k : Vec ℕ). is_eq (slice_cmp nat_cmp numbers k.items)) entries t e in
    (h.1, is_key numbers h.1 h.3)

-- One group more.
module _ (types : List Defined) (start : ℕ) (group : List SubType) where
  abbrev after : List Defined
  after = types ++ placed (length types) start group

  placed_is : (o : Option SubType) (q : ℕ) (d : Defined) → option_map (λ ty. record { ty = ty; first = length types; identity = start + q }) o ≡ Some d →
      (d.first ≡ length types) × (d.identity ≡ start + q) × (o ≡ Some d.ty)
  placed_is None q d e = absurd (cc e)
  placed_is (Some ty) q d e =
      let n : record { ty = ty; first = length types; identity = start + q } ≡ d = cc e in
      (sym (ap (λ (z : Defined). z.first) n), sym (ap (λ (z : Defined). z.identity) n), ap (λ (z : Defined). Some z.ty) n)

  -- A type of the group.
  added_at : (i : ℕ) (d : Defined) → length types ≤ i → slice_get after i ≡ Some d →
      (d.first ≡ length types) × (d.identity ≡ start + (i - length types)) × (slice_get group (i - length types) ≡ Some d.ty)
  added_at i d p e =
      placed_is (slice_get group (i - length types)) (i - length types) d
      (sym (at_placed (length types) start group (i - length types)) ∙
      sym (at_after types (placed (length types) start group) i (i - length types) (omega (arith, p))) ∙ e)

  same_number : (t x : ℕ) → t ≤ length types → use_number types t x ≡ use_number after t x
  same_number t x p = go (cases_lt x t)
    where
      go : (x < t) ⊎ (t ≤ x) → use_number types t x ≡ use_number after t x
      go (inl q) =
          before types t x q ∙ ap (λ o. 2 * identity_of x o) (sym (at_before types (placed (length types) start group) x (omega (arith, p, q)))) ∙
          sym (before after t x q)
      go (inr q) = inside types t x q ∙ sym (inside after t x q)

  more_numbers : (t : ℕ) (g : List SubType) (numbers : List ℕ) → t ≤ length types → HasNumbers types t g numbers → HasNumbers after t g numbers
  more_numbers t g numbers p h = (h.0, (λ x. h.1 x ∙ same_number t x p), h.2)

  outside_after : (t i : ℕ) → t < length types → IsOutside t (slice_get types i) → (o : Option Defined) → slice_get after i ≡ o → IsOutside t o
  outside_after t i p out None e = tt
  outside_after t i p out (Some d) e = go (cases_lt i (length types))
    where
      go : (i < length types) ⊎ (length types ≤ i) → d.first ≢ t
      go (inl q) = λ f. outside_not t (slice_get types i) d (sym (at_before types (placed (length types) start group) i q) ∙ e) out f
      go (inr q) = λ f. let n = (added_at i d q e).0 in omega (arith, n, f, p)

  stays : (t : ℕ) (g : List SubType) → t < length types → IsGroupAt types t g → IsGroupAt after t g
  stays t g p is = record {
    members = λ r ty e.
        let m = is.members r ty e in
        (m.0, at_before types (placed (length types) start group) (t + r) (at_within types (t + r) m.0 m.1) ∙ m.1, m.2, m.3, m.4);
    ends = outside_after t (t + length g) p is.ends (slice_get after (t + length g)) refl;
  }

  module _ (entries : List (Vec ℕ × ℕ)) (are : AreIndexed types entries) where
    old_start : (t : ℕ) (d : Defined) → t < length types → slice_get after t ≡ Some d → d.first ≡ t → d.identity ≡ t →
        Has after entries t
    old_start t d p e f i =
        let k = are.starts t d (sym (at_before types (placed (length types) start group) t p) ∙ e) f i in
        (k.0, stays t k.0 p k.1, k.2, more_numbers t k.0 k.2 (omega (arith, p)) k.3, k.4)

    old_hit : (numbers : List ℕ) (t : ℕ) → start_of numbers entries ≡ Some t →
        (t < length after) × (g : List SubType) × IsGroupAt after t g × HasNumbers after t g numbers
    old_hit numbers t e =
        let h = are.hits numbers t e in
        let p = h.0 in
        let n = length_both types (placed (length types) start group) in
        (omega (arith, p, n), h.1, stays t h.1 p h.2, more_numbers t h.1 numbers (omega (arith, p)) h.3)

    -- An equal group is there.
    pub indexed_again : start < length types → AreIndexed after entries
    indexed_again p = record {
      hits = old_hit;
      starts = λ t d e f i. go t d e f i (cases_lt t (length types));
    }
      where
        go : (t : ℕ) (d : Defined) → slice_get after t ≡ Some d → d.first ≡ t → d.identity ≡ t → (t < length types) ⊎ (length types ≤ t) → Has after entries t
        go t d e f i (inl q) = old_start t d q e f i
        go t d e f i (inr q) =
            let a = added_at t d q e in
            let m = a.0 in
            let n = a.1 in
            absurd (omega (arith, p, q, m, n, f, i))

    -- No equal group is there, and the entries get its start.
    module _ (more : List (Vec ℕ × ℕ)) (ty : SubType) (some : slice_get group 0 ≡ Some ty) (itself : start ≡ length types)
        (none : start_of (group_numbers (use_number types (length types)) group) entries ≡ None)
        (puts : Puts entries more (group_numbers (use_number types (length types)) group) (length types)) where
      abbrev its_key : List ℕ
      its_key = group_numbers (use_number types (length types)) group

      new_group : IsGroupAt after (length types) group
      new_group = record {
        members = λ r t e.
            let d : Defined = record { ty = t; first = length types; identity = start + r } in (
              d,
              at_after types (placed (length types) start group) (length types + r) r (omega arith) ∙ at_placed (length types) start group r ∙
                  ap (option_map (λ ty. record { ty = ty; first = length types; identity = start + r })) e,
              refl,
              refl,
              ap (λ n. n + r) itself,
            );
        ends =
            let n = length_both types (placed (length types) start group) in
            let m = length_placed (length types) start group in
            subst (IsOutside (length types)) (sym (at_past after (length types + length group) (omega (arith, n, m)))) tt;
      }

      other_key : (k : Vec ℕ) (t : ℕ) → start_of k.items entries ≡ Some t → is_eq (slice_cmp nat_cmp its_key k.items) ≡ false
      other_key k t e = not_true (is_eq (slice_cmp nat_cmp its_key k.items)) (λ s. absurd (let n = sym none ∙ ap (λ q. start_of q entries) (is_key its_key k s) ∙ e in cc n))

      still : (numbers : List ℕ) (t : ℕ) → start_of numbers entries ≡ Some t → start_of numbers more ≡ Some t
      still numbers t e =
          let k = found_key numbers entries t e in
          let there : start_of k.0.items entries ≡ Some t = ap (λ q. start_of q entries) (sym k.1) ∙ e in
          ap (λ q. start_of q more) k.1 ∙ puts.0 k.0 ∙ ap (λ b. cond b (Some (length types)) (start_of k.0.items entries)) (other_key k.0 t there) ∙ there

      more_hits : (numbers : List ℕ) (t : ℕ) → start_of numbers more ≡ Some t →
          (t < length after) × (g : List SubType) × IsGroupAt after t g × HasNumbers after t g numbers
      more_hits numbers t e =
          let k = found_key numbers more t e in
          let there : cond (is_eq (slice_cmp nat_cmp its_key k.0.items)) (Some (length types)) (start_of k.0.items entries) ≡ Some t =
          sym (puts.0 k.0) ∙ ap (λ q. start_of q more) (sym k.1) ∙ e in
          go k.0 k.1 (is_eq (slice_cmp nat_cmp its_key k.0.items)) refl there
        where
          go : (k : Vec ℕ) → numbers ≡ k.items → (b : Bool) → is_eq (slice_cmp nat_cmp its_key k.items) ≡ b → cond b (Some (length types)) (start_of k.items entries) ≡ Some t →
              (t < length after) × (g : List SubType) × IsGroupAt after t g × HasNumbers after t g numbers
          go k n true s e =
              let same : length types ≡ t = cc e in
              let w = at_within group 0 ty some in
              let size = length_both types (placed (length types) start group) in
              let m = length_placed (length types) start group in
              subst (λ t. (t < length after) × (g : List SubType) × IsGroupAt after t g × HasNumbers after t g numbers) same (
                omega (arith, w, size, m),
                group,
                new_group,
                more_numbers (length types) group numbers (omega arith)
                    (use_number types (length types), (λ x. refl), n ∙ sym (is_key its_key k s)),
              )
          go k n false s e = old_hit numbers t (ap (λ q. start_of q entries) n ∙ e)

      pub indexed_new : AreIndexed after more
      indexed_new = record {
        hits = more_hits;
        starts = λ t d e f i. go t d e f i (cases_lt t (length types));
      }
        where
          go : (t : ℕ) (d : Defined) → slice_get after t ≡ Some d → d.first ≡ t → d.identity ≡ t → (t < length types) ⊎ (length types ≤ t) → Has after more t
          go t d e f i (inl q) = let h = old_start t d q e f i in (h.0, h.1, h.2, h.3, still h.2 t h.4)
          go t d e f i (inr q) =
              let a = added_at t d q e in
              let same : length types ≡ t = sym a.0 ∙ f in
              subst (Has after more) same
              (group, new_group, its_key, more_numbers (length types) group its_key (omega arith) (use_number types (length types), (λ x. refl), refl), puts.1)

-- Nothing is found in an index of no types.
pub none_indexed : AreIndexed [] []
none_indexed = record { hits = λ numbers t e. absurd (cc e); starts = λ t d e f i. absurd (cc e) }

-- A list that is not empty.
pub some_first : (group : List SubType) → (group ≡ [] → ⊥) → (ty : SubType) × (others : List SubType) × (group ≡ ty ∷ others)
some_first [] n = absurd (n refl)
some_first (ty ∷ others) n = (ty, others, refl)

-- What a look-up of the numbers of a group says.
module _ (types : List Defined) (entries : List (Vec ℕ × ℕ)) (are : AreIndexed types entries) (group : List SubType) (some : group ≡ [] → ⊥)
    (numbers : List ℕ) (is : numbers ≡ group_numbers (use_number types (length types)) group) where
  first_of_found : (start : ℕ) → start_of numbers entries ≡ Some start → IsFirstEqual types group start × (start < length types)
  first_of_found start e =
      let s = some_first group some in (
        subst (λ g. IsFirstEqual types g start) (sym s.2)
            (first_found types entries are s.0 s.1 start (ap (λ g. start_of (group_numbers (use_number types (length types)) g) entries) (sym s.2) ∙ ap (λ q. start_of q entries) (sym is) ∙ e)),
        (are.hits numbers start e).0,
      )

  pub found_is_first : (start : ℕ) → start_of numbers entries ≡ Some start → IsFirstEqual types group start
  found_is_first start e = (first_of_found start e).0

  pub found_is_before : (start : ℕ) → start_of numbers entries ≡ Some start → start < length types
  found_is_before start e = (first_of_found start e).1

  pub none_is_first : start_of numbers entries ≡ None → IsFirstEqual types group (length types)
  none_is_first e =
      let s = some_first group some in
      subst (λ g. IsFirstEqual types g (length types)) (sym s.2)
      (first_itself types entries are s.0 s.1 (ap (λ g. start_of (group_numbers (use_number types (length types)) g) entries) (sym s.2) ∙ ap (λ q. start_of q entries) (sym is) ∙ e))

  -- The entries with the group, which equals none before it.
  pub indexed_first : (more : List (Vec ℕ × ℕ)) → start_of numbers entries ≡ None → Puts entries more numbers (length types) →
      AreIndexed (types ++ placed (length types) (length types) group) more
  indexed_first more none puts =
      let s = some_first group some in
      indexed_new types (length types) group entries are more s.0 (ap (λ g. slice_get g 0) s.2) refl (ap (λ q. start_of q entries) (sym is) ∙ none)
      (subst (λ q. Puts entries more q (length types)) is puts)

pub empty_list : (group : List SubType) → length group ≡ 0 → group ≡ []
empty_list [] e = refl
empty_list (ty ∷ others) e = absurd (omega (arith, e))

-- A group without types changes nothing.
pub added_empty : (types : List Defined) (group : List SubType) → group ≡ [] → Added types group types
added_empty types group e =
    subst (λ g. Added types g types) (sym e)
    (let f = first_of_empty types in record { start = f.0; is_first = f.1; fits = tt; all = sym (append-nil types) })
