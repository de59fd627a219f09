-- The algorithm at one operator: what the frame may hold after it is what the rule makes of what
-- the frame may hold before it.
use Rattle.std.proofs.Common.{◌≡◌, Bool, true, false, if◌then◌else◌, List, [], ◌∷◌, ◌++◌, Some, None, ◌⊎◌, inl, inr, refl, sym, ap, subst, ◌∙◌, append_assoc}
use Rattle.std.proofs.lemmas.List.{append-nil}
use Rattle.std.specs.Option.{option_map, option_and_then}
use Rattle.wasm_below.specs.declared.types.HeapType.{HeapType}
use Rattle.wasm_typing.specs.declared.value_type.ValueType.{ValueType}
use Rattle.wasm_typing.specs.declared.value_type.ValueType.TheVariants.{I32, Bottom, Ref}
use Rattle.wasm_typing.specs.declared.value_type.Heap.{Heap}
use Rattle.wasm_typing.specs.declared.value_type.Heap.TheVariants.{Known, Unknown}
use Rattle.wasm_typing.specs.Types.{is_number, Stack}
use Rattle.wasm_typing.specs.Matching.{TypeOrder, IsOrder, HeapMatches, heap_reflexive, bottom_heap, Matches, reflexive, by_reference, bottom_value, AllMatch, heap_matches, matches}
use Rattle.wasm_typing.specs.Rules.{Rule, fixed, jumps, drops, selects, switches, invalid, tests_null, makes_non_null, branches_on_null, converts}
use Rattle.wasm_typing.specs.Typing.{MatchEach, RuleTypes}
use Rattle.wasm_typing.specs.Checking.{State, state, Holds, pop, take_one, take_like, take_ref, heap_of, all_match, match_each, joined, if_number, converted, select_of, run_rule}
use Rattle.wasm_typing.proofs.Orders.{both_true, null_itself, null_any, heap_sound, heap_complete, matches_test, test_matches, matches_trans}
use Rattle.wasm_typing.proofs.Stacks.{chosen, choose, mapped, bound, bind, all_match_itself, all_match_test, test_all_match, holds_itself, match_append, pop_sound, pop_complete, push_complete, push_sound}

-- Operands that the frame may hold before an operator with this rule, if it may hold `w` after it.
pub record Before (O : TypeOrder) (r : Rule) (k : State) (w : Stack) : Type 0 where
  pub from : Stack
  pub to : Stack
  pub below : Stack
  pub types : RuleTypes O r from to
  pub holds : Holds O k.operands k.unreachable (from ++ below)
  pub becomes : AllMatch O (to ++ below) w

module _ (O : TypeOrder) (ok : IsOrder O) where
  -- one operand
  one_sound : (ks : Stack) (any : Bool) (p : ValueType × Stack) (v : ValueType) (u : Stack) →
      take_one ks any ≡ Some p → Matches O p.0 v → Holds O p.1 any u → Holds O ks any (v ∷ u)
  one_sound [] true p v u e m h = tt
  one_sound [] false p v u e m h = absurd (cc e)
  one_sound (k ∷ ks) any p v u e m h =
      let f : p ≡ (k, ks) = cc e in
      (subst (λ x. Matches O x.0 v) f m, subst (λ x. Holds O x.1 any u) f h)

  one_complete : (ks : Stack) (any : Bool) (v : ValueType) (u : Stack) → Holds O ks any (v ∷ u) →
      (p : ValueType × Stack) × (take_one ks any ≡ Some p) × Matches O p.0 v × Holds O p.1 any u
  one_complete [] true v u h = ((Bottom, []), refl, bottom_value, tt)
  one_complete [] false v u h = absurd (cc h)
  one_complete (k ∷ ks) any v u h = ((k, ks), refl, h.0, h.1)

  -- two operands of one type
  either_test : (a b : ValueType) (test other : Bool) (v : ValueType) → (test ≡ true → Matches O a b) → (other ≡ true → Matches O b a) →
      (if test then Some b else (if other then Some a else None)) ≡ Some v → Matches O a v × Matches O b v
  either_test a b true other v f g e = let same : b ≡ v = cc e in (subst (λ x. Matches O a x) same (f refl), subst (λ x. Matches O b x) same reflexive)
  either_test a b false true v f g e = let same : a ≡ v = cc e in (subst (λ x. Matches O a x) same reflexive, subst (λ x. Matches O b x) same (g refl))
  either_test a b false false v f g e = absurd (cc e)

  joined_sound : (a b v : ValueType) → joined O a b ≡ Some v → Matches O a v × Matches O b v
  joined_sound a b v e = either_test a b (matches O a b) (matches O b a) v (matches_test O ok a b) (matches_test O ok b a) e

  joined_first : (a b : ValueType) → Matches O a b → joined O a b ≡ Some b
  joined_first a b m = ap (λ z. if z then Some b else (if matches O b a then Some a else None)) (test_matches O ok m)

  -- only the same number type and bot match a number type
  flat : (a x : ValueType) → Matches O a x → is_number x ≡ true → (a ≡ x) ⊎ (a ≡ Bottom)
  flat a x reflexive n = inl refl
  flat a x bottom_value n = inr refl
  flat a x (by_reference e d) n = absurd (cc n)

  joined_flat : (a b x : ValueType) → (a ≡ x) ⊎ (a ≡ Bottom) → (b ≡ x) ⊎ (b ≡ Bottom) → Matches O b x → (v : ValueType) × (joined O a b ≡ Some v) × Matches O v x
  joined_flat a b x (inr e) q n = (b, joined_first a b (subst (λ z. Matches O z b) (sym e) bottom_value), n)
  joined_flat a b x (inl e) (inl f) n = (b, joined_first a b (subst (λ z. Matches O a z) (e ∙ sym f) reflexive), n)
  joined_flat a b x (inl e) (inr f) n = pick (matches O a b) refl
    where
      pick : (test : Bool) → matches O a b ≡ test → (v : ValueType) × (joined O a b ≡ Some v) × Matches O v x
      pick true g = (b, joined_first a b (matches_test O ok a b g), n)
      pick false g = (
        a,
        ap (λ z. if z then Some b else (if matches O b a then Some a else None)) g ∙ ap (λ z. if z then Some a else None) (ap (λ z. matches O z a) f),
        subst (λ z. Matches O a z) e reflexive,
      )

  joined_complete : (a b x : ValueType) → Matches O a x → Matches O b x → is_number x ≡ true → (v : ValueType) × (joined O a b ≡ Some v) × Matches O v x
  joined_complete a b x m n num = joined_flat a b x (flat a x m num) (flat b x n num) n

  number_below : (a x : ValueType) → Matches O a x → is_number x ≡ true → is_number a ≡ true
  number_below a x m n = go (flat a x m n)
    where
      go : (a ≡ x) ⊎ (a ≡ Bottom) → is_number a ≡ true
      go (inl e) = ap is_number e ∙ n
      go (inr e) = ap is_number e

  numeric_is : (v : ValueType) → is_number v ≡ true → if_number v ≡ Some v
  numeric_is v e = choose (is_number v) (Some v) v e refl

  -- a select
  two_sound : (ks : Stack) (any : Bool) (s : Stack) → select_of O ks any ≡ Some s →
      (v : ValueType) × (rest : Stack) × (is_number v ≡ true) × (s ≡ v ∷ rest) × ((u : Stack) → Holds O rest any u → Holds O ks any (v ∷ v ∷ u))
  two_sound ks any s e =
      let p = bound (λ (p : ValueType × Stack). option_and_then (λ (q : ValueType × Stack).
      option_map (λ (v : ValueType). v ∷ q.1) (option_and_then if_number (joined O p.0 q.0))) (take_one p.1 any)) (take_one ks any) s e in
      let q = bound (λ (q : ValueType × Stack). option_map (λ (v : ValueType). v ∷ q.1) (option_and_then if_number (joined O p.0.0 q.0))) (take_one p.0.1 any) s p.2 in
      let v = mapped (λ (v : ValueType). v ∷ q.0.1) (option_and_then if_number (joined O p.0.0 q.0.0)) s q.2 in
      let w = bound if_number (joined O p.0.0 q.0.0) v.0 v.1 in
      let n = chosen (is_number w.0) (Some w.0) v.0 w.2 in
      let same : w.0 ≡ v.0 = cc (n.1) in
      let j = joined_sound p.0.0 q.0.0 v.0 (w.1 ∙ ap (λ x. Some x) same) in (
        v.0,
        q.0.1,
        ap is_number (sym same) ∙ n.0,
        sym v.2,
        λ u h. one_sound ks any p.0 v.0 (v.0 ∷ u) p.1 j.0 (one_sound p.0.1 any q.0 v.0 u q.1 j.1 h),
      )

  two_complete : (ks : Stack) (any : Bool) (x : ValueType) (u : Stack) → Holds O ks any (x ∷ x ∷ u) → is_number x ≡ true →
      (v : ValueType) × (rest : Stack) × (select_of O ks any ≡ Some (v ∷ rest)) × Matches O v x × Holds O rest any u
  two_complete ks any x u h n =
      let p = one_complete ks any x (x ∷ u) h in
      let q = one_complete p.0.1 any x u p.3 in
      let j = joined_complete p.0.0 q.0.0 x p.2 q.2 n in (
        j.0,
        q.0.1,
        bind (λ (p : ValueType × Stack). option_and_then (λ (q : ValueType × Stack).
            option_map (λ (v : ValueType). v ∷ q.1) (option_and_then if_number (joined O p.0 q.0))) (take_one p.1 any)) (take_one ks any) p.0 (j.0 ∷ q.0.1) p.1
            (bind (λ (q : ValueType × Stack). option_map (λ (v : ValueType). v ∷ q.1) (option_and_then if_number (joined O p.0.0 q.0))) (take_one p.0.1 any) q.0 (j.0 ∷ q.0.1) q.1
            (ap (option_map (λ (v : ValueType). v ∷ q.0.1)) (bind if_number (joined O p.0.0 q.0.0) j.0 j.0 j.1 (numeric_is j.0 (number_below j.0 x j.2 n))))),
        j.2,
        q.3,
      )

  -- as many operands as a label takes
  like_sound : (want ks : Stack) (any : Bool) (vs : Stack) → take_like want ks any ≡ Some vs → (below : Stack) × Holds O ks any (vs ++ below)
  like_sound [] ks any vs e = (ks, subst (λ x. Holds O ks any (x ++ ks)) (let f : [] ≡ vs = cc e in f) (holds_itself O ok ks any))
  like_sound (v ∷ want) [] true vs e = ([], tt)
  like_sound (v ∷ want) [] false vs e = absurd (cc e)
  like_sound (v ∷ want) (k ∷ ks) any vs e =
      let m = mapped (λ r. k ∷ r) (take_like want ks any) vs e in
      let r = like_sound want ks any m.0 m.1 in
      (r.0, subst (λ x. Holds O (k ∷ ks) any (x ++ r.0)) m.2 (reflexive, r.1))

  like_complete : (want ks : Stack) (any : Bool) (s u : Stack) → Holds O ks any (s ++ u) → AllMatch O s want →
      (vs : Stack) × (take_like want ks any ≡ Some vs) × AllMatch O vs s
  like_complete [] ks any [] u h m = ([], refl, tt)
  like_complete [] ks any (x ∷ s) u h m = elim m [ ]
  like_complete (v ∷ want) ks any [] u h m = elim m [ ]
  like_complete (v ∷ want) [] true (x ∷ s) u h m =
      let r = like_complete want [] true s u tt m.1 in
      (Bottom ∷ r.0, ap (option_map (λ r. Bottom ∷ r)) r.1, (bottom_value, r.2))
  like_complete (v ∷ want) [] false (x ∷ s) u h m = absurd (cc h)
  like_complete (v ∷ want) (k ∷ ks) any (x ∷ s) u h m =
      let r = like_complete want ks any s u h.1 m.1 in
      (k ∷ r.0, ap (option_map (λ r. k ∷ r)) r.1, (h.0, r.2))

  all_match_trans : (a b d : Stack) → AllMatch O a b → AllMatch O b d → AllMatch O a d
  all_match_trans [] [] d m n = n
  all_match_trans [] (y ∷ b) d m n = elim m [ ]
  all_match_trans (x ∷ a) [] d m n = elim m [ ]
  all_match_trans (x ∷ a) (y ∷ b) [] m n = elim n [ ]
  all_match_trans (x ∷ a) (y ∷ b) (z ∷ d) m n = (matches_trans O ok x y z m.0 n.0, all_match_trans a b d m.1 n.1)

  serve_test : (vs : Stack) (ss : List Stack) → match_each O vs ss ≡ true → MatchEach O vs ss
  serve_test vs [] e = tt
  serve_test vs (s ∷ ss) e = let h = both_true (all_match O vs s) (match_each O vs ss) e in (all_match_test O ok vs s h.0, serve_test vs ss h.1)

  test_serve : (vs s : Stack) (ss : List Stack) → AllMatch O vs s → MatchEach O s ss → match_each O vs ss ≡ true
  test_serve vs s [] m h = refl
  test_serve vs s (x ∷ ss) m h =
      ap (λ z. if z then match_each O vs ss else false) (test_all_match O ok vs x (all_match_trans vs s x m h.0)) ∙ test_serve vs s ss m h.1

  -- a reference
  ref_matches : (v : ValueType) (h : Heap) → heap_of v ≡ Some h → Matches O v (Ref true h)
  ref_matches Bottom h e = bottom_value
  ref_matches (Ref n g) h e =
      let same : g ≡ h = cc e in
      subst (λ x. Matches O (Ref n g) (Ref true x)) same (by_reference (null_any n) heap_reflexive)
  ref_matches _ h e = absurd (cc e)

  matches_ref : (v : ValueType) (g : Heap) → Matches O v (Ref true g) → (h : Heap) × (heap_of v ≡ Some h) × HeapMatches O h g
  matches_ref v g reflexive = (g, refl, heap_reflexive)
  matches_ref v g (by_reference {h = h} e d) = (h, refl, d)
  matches_ref v g bottom_value = (Unknown, refl, bottom_heap)

  ref_sound : (ks : Stack) (any : Bool) (p : Heap × Stack) (u : Stack) → take_ref ks any ≡ Some p → Holds O p.1 any u → Holds O ks any (Ref true p.0 ∷ u)
  ref_sound ks any p u e h =
      let q = bound (λ (p : ValueType × Stack). option_map (λ (h : Heap). (h, p.1)) (heap_of p.0)) (take_one ks any) p e in
      let m = mapped (λ (h : Heap). (h, q.0.1)) (heap_of q.0.0) p q.2 in
      one_sound ks any q.0 (Ref true p.0) u q.1
      (ref_matches q.0.0 p.0 (m.1 ∙ ap (λ x. Some x) (ap (λ (z : Heap × Stack). z.0) m.2)))
      (subst (λ x. Holds O x any u) (sym (ap (λ (z : Heap × Stack). z.1) m.2)) h)

  ref_complete : (ks : Stack) (any : Bool) (g : Heap) (u : Stack) → Holds O ks any (Ref true g ∷ u) →
      (p : Heap × Stack) × (take_ref ks any ≡ Some p) × HeapMatches O p.0 g × Holds O p.1 any u
  ref_complete ks any g u h =
      let q = one_complete ks any (Ref true g) u h in
      let m = matches_ref q.0.0 g q.2 in (
        (m.0, q.0.1),
        bind (λ (p : ValueType × Stack). option_map (λ (h : Heap). (h, p.1)) (heap_of p.0)) (take_one ks any) q.0 (m.0, q.0.1) q.1
            (ap (option_map (λ (h : Heap). (h, q.0.1))) m.1),
        m.2,
        q.3,
      )

  -- a conversion
  converted_sound : (h g : HeapType) (x v : ValueType) → converted O h g x ≡ Some v → (n : Bool) × (v ≡ Ref n (Known g)) × Matches O x (Ref n (Known h))
  converted_sound h g Bottom v e = let f : Ref false (Known g) ≡ v = cc e in (false, sym f, bottom_value)
  converted_sound h g (Ref n k) v e =
      let c = chosen (heap_matches O k (Known h)) (Some (Ref n (Known g))) v e in
      let f : Ref n (Known g) ≡ v = cc c.1 in
      (n, sym f, by_reference (null_itself n) (heap_sound O ok k (Known h) c.0))
  converted_sound h g _ v e = absurd (cc e)

  converted_complete : (h g : HeapType) (x : ValueType) (n : Bool) → Matches O x (Ref n (Known h)) →
      (v : ValueType) × (converted O h g x ≡ Some v) × Matches O v (Ref n (Known g))
  converted_complete h g x n reflexive =
      (Ref n (Known g), choose (heap_matches O (Known h) (Known h)) (Some (Ref n (Known g))) (Ref n (Known g)) (heap_complete O ok {h = Known h} {g = Known h} heap_reflexive) refl, reflexive)
  converted_complete h g x n (by_reference {n = m} {h = k} e d) =
      (Ref m (Known g), choose (heap_matches O k (Known h)) (Some (Ref m (Known g))) (Ref m (Known g)) (heap_complete O ok d) refl, by_reference e heap_reflexive)
  converted_complete h g x n bottom_value = (Ref false (Known g), refl, by_reference refl heap_reflexive)

  pub rule_sound : (r : Rule) (k next : State) (w : Stack) → run_rule O r k ≡ Some next → Holds O next.operands next.unreachable w → Before O r k w
  rule_sound (fixed takes leaves) k next w e h =
      let m = mapped (λ rest. state (leaves ++ rest) k.unreachable k.set) (pop O takes k.operands k.unreachable) next e in
      let p = push_sound O ok leaves m.0 k.unreachable w (subst (λ x. Holds O x.operands x.unreachable w) (sym m.2) h) in
      record {
        from = takes;
        to = leaves;
        below = p.1;
        types = (refl, refl);
        holds = pop_sound O ok takes k.operands k.unreachable m.0 p.1 m.1 p.4;
        becomes = subst (λ x. AllMatch O (leaves ++ p.1) x) (sym p.2) (match_append O ok leaves p.0 p.1 p.3);
      }
  rule_sound (jumps takes) k next w e h =
      let m = mapped (λ (rest : Stack). state [] true k.set) (pop O takes k.operands k.unreachable) next e in
      record {
        from = takes ++ m.0;
        to = w;
        below = [];
        types = (m.0, refl);
        holds = subst (λ x. Holds O k.operands k.unreachable x) (sym (append-nil (takes ++ m.0))) (pop_sound O ok takes k.operands k.unreachable m.0 m.0 m.1 (holds_itself O ok m.0 k.unreachable));
        becomes = subst (λ x. AllMatch O x w) (sym (append-nil w)) (all_match_itself O ok w);
      }
  rule_sound drops k next w e h =
      let m = mapped (λ (p : ValueType × Stack). state p.1 k.unreachable k.set) (take_one k.operands k.unreachable) next e in
      record {
        from = m.0.0 ∷ [];
        to = [];
        below = w;
        types = (m.0.0, refl, refl);
        holds = one_sound k.operands k.unreachable m.0 m.0.0 w m.1 reflexive (subst (λ x. Holds O x.operands x.unreachable w) (sym m.2) h);
        becomes = all_match_itself O ok w;
      }
  rule_sound selects k next w e h =
      let b = bound (λ rest. option_map (λ s. state s k.unreachable k.set) (select_of O rest k.unreachable)) (pop O (I32 ∷ []) k.operands k.unreachable) next e in
      let m = mapped (λ s. state s k.unreachable k.set) (select_of O b.0 k.unreachable) next b.2 in
      let s = two_sound b.0 k.unreachable m.0 m.1 in
      let held : Holds O (s.0 ∷ s.1) k.unreachable w = subst (λ x. Holds O x k.unreachable w) s.3 (subst (λ x. Holds O x.operands x.unreachable w) (sym m.2) h) in
      let p = push_sound O ok (s.0 ∷ []) s.1 k.unreachable w held in
      record {
        from = I32 ∷ s.0 ∷ s.0 ∷ [];
        to = s.0 ∷ [];
        below = p.1;
        types = (s.0, s.2, refl, refl);
        holds = pop_sound O ok (I32 ∷ []) k.operands k.unreachable b.0 (s.0 ∷ s.0 ∷ p.1) b.1 (s.4 p.1 p.4);
        becomes = subst (λ x. AllMatch O (s.0 ∷ p.1) x) (sym p.2) (match_append O ok (s.0 ∷ []) p.0 p.1 p.3);
      }
  rule_sound (switches others last) k next w e h =
      let b = bound (λ rest. option_and_then (λ vs. if all_match O vs last then (if match_each O vs others then Some (state [] true k.set) else None) else None)
      (take_like last rest k.unreachable)) (pop O (I32 ∷ []) k.operands k.unreachable) next e in
      let d = bound (λ vs. if all_match O vs last then (if match_each O vs others then Some (state [] true k.set) else None) else None) (take_like last b.0 k.unreachable) next b.2 in
      let f = chosen (all_match O d.0 last) (if match_each O d.0 others then Some (state [] true k.set) else None) next d.2 in
      let g = chosen (match_each O d.0 others) (Some (state [] true k.set)) next f.1 in
      let l = like_sound last b.0 k.unreachable d.0 d.1 in
      record {
        from = I32 ∷ (d.0 ++ l.0);
        to = w;
        below = [];
        types = (d.0, l.0, refl, serve_test d.0 others g.0, all_match_test O ok d.0 last f.0);
        holds = subst (λ x. Holds O k.operands k.unreachable x) (sym (append-nil (I32 ∷ (d.0 ++ l.0)))) (pop_sound O ok (I32 ∷ []) k.operands k.unreachable b.0 (d.0 ++ l.0) b.1 l.1);
        becomes = subst (λ x. AllMatch O x w) (sym (append-nil w)) (all_match_itself O ok w);
      }
  rule_sound tests_null k next w e h =
      let m = mapped (λ (p : Heap × Stack). state (I32 ∷ p.1) k.unreachable k.set) (take_ref k.operands k.unreachable) next e in
      let p = push_sound O ok (I32 ∷ []) m.0.1 k.unreachable w (subst (λ x. Holds O x.operands x.unreachable w) (sym m.2) h) in
      record {
        from = Ref true m.0.0 ∷ [];
        to = I32 ∷ [];
        below = p.1;
        types = (m.0.0, refl, refl);
        holds = ref_sound k.operands k.unreachable m.0 p.1 m.1 p.4;
        becomes = subst (λ x. AllMatch O (I32 ∷ p.1) x) (sym p.2) (match_append O ok (I32 ∷ []) p.0 p.1 p.3);
      }
  rule_sound makes_non_null k next w e h =
      let m = mapped (λ (p : Heap × Stack). state (Ref false p.0 ∷ p.1) k.unreachable k.set) (take_ref k.operands k.unreachable) next e in
      let p = push_sound O ok (Ref false m.0.0 ∷ []) m.0.1 k.unreachable w (subst (λ x. Holds O x.operands x.unreachable w) (sym m.2) h) in
      record {
        from = Ref true m.0.0 ∷ [];
        to = Ref false m.0.0 ∷ [];
        below = p.1;
        types = (m.0.0, refl, refl);
        holds = ref_sound k.operands k.unreachable m.0 p.1 m.1 p.4;
        becomes = subst (λ x. AllMatch O (Ref false m.0.0 ∷ p.1) x) (sym p.2) (match_append O ok (Ref false m.0.0 ∷ []) p.0 p.1 p.3);
      }
  rule_sound (branches_on_null s) k next w e h =
      let b = bound (λ (p : Heap × Stack). option_map (λ rest. state (Ref false p.0 ∷ (s ++ rest)) k.unreachable k.set) (pop O s p.1 k.unreachable)) (take_ref k.operands k.unreachable) next e in
      let m = mapped (λ rest. state (Ref false b.0.0 ∷ (s ++ rest)) k.unreachable k.set) (pop O s b.0.1 k.unreachable) next b.2 in
      let p = push_sound O ok (Ref false b.0.0 ∷ s) m.0 k.unreachable w (subst (λ x. Holds O x.operands x.unreachable w) (sym m.2) h) in
      record {
        from = Ref true b.0.0 ∷ s;
        to = Ref false b.0.0 ∷ s;
        below = p.1;
        types = (b.0.0, refl, refl);
        holds = ref_sound k.operands k.unreachable b.0 (s ++ p.1) b.1 (pop_sound O ok s b.0.1 k.unreachable m.0 p.1 m.1 p.4);
        becomes = subst (λ x. AllMatch O (Ref false b.0.0 ∷ (s ++ p.1)) x) (sym p.2) (match_append O ok (Ref false b.0.0 ∷ s) p.0 p.1 p.3);
      }
  rule_sound (converts h g) k next w e held =
      let b = bound (λ (p : ValueType × Stack). option_map (λ v. state (v ∷ p.1) k.unreachable k.set) (converted O h g p.0)) (take_one k.operands k.unreachable) next e in
      let m = mapped (λ v. state (v ∷ b.0.1) k.unreachable k.set) (converted O h g b.0.0) next b.2 in
      let c = converted_sound h g b.0.0 m.0 m.1 in
      let p = push_sound O ok (m.0 ∷ []) b.0.1 k.unreachable w (subst (λ x. Holds O x.operands x.unreachable w) (sym m.2) held) in
      record {
        from = Ref c.0 (Known h) ∷ [];
        to = Ref c.0 (Known g) ∷ [];
        below = p.1;
        types = (c.0, refl, refl);
        holds = one_sound k.operands k.unreachable b.0 (Ref c.0 (Known h)) p.1 b.1 c.2 p.4;
        becomes = subst (λ z. AllMatch O (z ∷ p.1) w) c.1 (subst (λ x. AllMatch O (m.0 ∷ p.1) x) (sym p.2) (match_append O ok (m.0 ∷ []) p.0 p.1 p.3));
      }
  rule_sound invalid k next w e h = absurd (cc e)

  pub rule_complete : (r : Rule) (k : State) (from to below : Stack) → RuleTypes O r from to → Holds O k.operands k.unreachable (from ++ below) →
      (next : State) × (run_rule O r k ≡ Some next) × Holds O next.operands next.unreachable (to ++ below)
  rule_complete (fixed takes leaves) k from to below y h =
      let p = pop_complete O ok takes k.operands k.unreachable takes below (subst (λ x. Holds O k.operands k.unreachable (x ++ below)) y.0 h) (all_match_itself O ok takes) in (
        state (leaves ++ p.0) k.unreachable k.set,
        ap (option_map (λ rest. state (leaves ++ rest) k.unreachable k.set)) p.1,
        subst (λ x. Holds O (leaves ++ p.0) k.unreachable (x ++ below)) (sym y.1) (push_complete O ok leaves p.0 k.unreachable below p.2),
      )
  rule_complete (jumps takes) k from to below y h =
      let p = pop_complete O ok takes k.operands k.unreachable takes (y.0 ++ below)
      (subst (λ x. Holds O k.operands k.unreachable x) (append_assoc takes y.0 below) (subst (λ x. Holds O k.operands k.unreachable (x ++ below)) y.1 h)) (all_match_itself O ok takes) in
      (state [] true k.set, ap (option_map (λ (rest : Stack). state [] true k.set)) p.1, tt)
  rule_complete drops k from to below y h =
      let p = one_complete k.operands k.unreachable y.0 below (subst (λ x. Holds O k.operands k.unreachable (x ++ below)) y.1 h) in (
        state p.0.1 k.unreachable k.set,
        ap (option_map (λ (p : ValueType × Stack). state p.1 k.unreachable k.set)) p.1,
        subst (λ x. Holds O p.0.1 k.unreachable (x ++ below)) (sym y.2) p.3,
      )
  rule_complete selects k from to below y h =
      let p = pop_complete O ok (I32 ∷ []) k.operands k.unreachable (I32 ∷ []) (y.0 ∷ y.0 ∷ below) (subst (λ x. Holds O k.operands k.unreachable (x ++ below)) y.2 h) (all_match_itself O ok (I32 ∷ [])) in
      let s = two_complete p.0 k.unreachable y.0 below p.2 y.1 in (
        state (s.0 ∷ s.1) k.unreachable k.set,
        bind (λ rest. option_map (λ s. state s k.unreachable k.set) (select_of O rest k.unreachable)) (pop O (I32 ∷ []) k.operands k.unreachable) p.0 (state (s.0 ∷ s.1) k.unreachable k.set) p.1
            (ap (option_map (λ s. state s k.unreachable k.set)) s.2),
        subst (λ x. Holds O (s.0 ∷ s.1) k.unreachable (x ++ below)) (sym y.3) (s.3, s.4),
      )
  rule_complete (switches others last) k from to below y h =
      let p = pop_complete O ok (I32 ∷ []) k.operands k.unreachable (I32 ∷ []) ((y.0 ++ y.1) ++ below) (subst (λ x. Holds O k.operands k.unreachable (x ++ below)) y.2 h) (all_match_itself O ok (I32 ∷ [])) in
      let l = like_complete last p.0 k.unreachable y.0 (y.1 ++ below) (subst (λ x. Holds O p.0 k.unreachable x) (append_assoc y.0 y.1 below) p.2) y.4 in (
        state [] true k.set,
        bind (λ rest. option_and_then (λ vs. if all_match O vs last then (if match_each O vs others then Some (state [] true k.set) else None) else None)
            (take_like last rest k.unreachable)) (pop O (I32 ∷ []) k.operands k.unreachable) p.0 (state [] true k.set) p.1
            (bind (λ vs. if all_match O vs last then (if match_each O vs others then Some (state [] true k.set) else None) else None) (take_like last p.0 k.unreachable) l.0 (state [] true k.set) l.1
            (choose (all_match O l.0 last) (if match_each O l.0 others then Some (state [] true k.set) else None) (state [] true k.set) (test_all_match O ok l.0 last (all_match_trans l.0 y.0 last l.2 y.4))
            (choose (match_each O l.0 others) (Some (state [] true k.set)) (state [] true k.set) (test_serve l.0 y.0 others l.2 y.3) refl))),
        tt,
      )
  rule_complete tests_null k from to below y h =
      let p = ref_complete k.operands k.unreachable y.0 below (subst (λ x. Holds O k.operands k.unreachable (x ++ below)) y.1 h) in (
        state (I32 ∷ p.0.1) k.unreachable k.set,
        ap (option_map (λ (p : Heap × Stack). state (I32 ∷ p.1) k.unreachable k.set)) p.1,
        subst (λ x. Holds O (I32 ∷ p.0.1) k.unreachable (x ++ below)) (sym y.2) (reflexive, p.3),
      )
  rule_complete makes_non_null k from to below y h =
      let p = ref_complete k.operands k.unreachable y.0 below (subst (λ x. Holds O k.operands k.unreachable (x ++ below)) y.1 h) in (
        state (Ref false p.0.0 ∷ p.0.1) k.unreachable k.set,
        ap (option_map (λ (p : Heap × Stack). state (Ref false p.0 ∷ p.1) k.unreachable k.set)) p.1,
        subst (λ x. Holds O (Ref false p.0.0 ∷ p.0.1) k.unreachable (x ++ below)) (sym y.2) (by_reference refl p.2, p.3),
      )
  rule_complete (branches_on_null s) k from to below y h =
      let p = ref_complete k.operands k.unreachable y.0 (s ++ below) (subst (λ x. Holds O k.operands k.unreachable (x ++ below)) y.1 h) in
      let q = pop_complete O ok s p.0.1 k.unreachable s below p.3 (all_match_itself O ok s) in (
        state (Ref false p.0.0 ∷ (s ++ q.0)) k.unreachable k.set,
        bind (λ (p : Heap × Stack). option_map (λ rest. state (Ref false p.0 ∷ (s ++ rest)) k.unreachable k.set) (pop O s p.1 k.unreachable)) (take_ref k.operands k.unreachable) p.0
            (state (Ref false p.0.0 ∷ (s ++ q.0)) k.unreachable k.set) p.1 (ap (option_map (λ rest. state (Ref false p.0.0 ∷ (s ++ rest)) k.unreachable k.set)) q.1),
        subst (λ x. Holds O (Ref false p.0.0 ∷ (s ++ q.0)) k.unreachable (x ++ below)) (sym y.2) (by_reference refl p.2, push_complete O ok s q.0 k.unreachable below q.2),
      )
  rule_complete (converts h g) k from to below y held =
      let p = one_complete k.operands k.unreachable (Ref y.0 (Known h)) below (subst (λ x. Holds O k.operands k.unreachable (x ++ below)) y.1 held) in
      let c = converted_complete h g p.0.0 y.0 p.2 in (
        state (c.0 ∷ p.0.1) k.unreachable k.set,
        bind (λ (p : ValueType × Stack). option_map (λ v. state (v ∷ p.1) k.unreachable k.set) (converted O h g p.0)) (take_one k.operands k.unreachable) p.0
            (state (c.0 ∷ p.0.1) k.unreachable k.set) p.1 (ap (option_map (λ v. state (v ∷ p.0.1) k.unreachable k.set)) c.1),
        subst (λ x. Holds O (c.0 ∷ p.0.1) k.unreachable (x ++ below)) (sym y.2) (c.2, p.3),
      )
  rule_complete invalid k from to below y h = elim y [ ]
