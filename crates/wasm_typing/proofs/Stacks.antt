-- The operands that the algorithm knows, and the operands that the frame may hold.
use Rattle.std.proofs.Common.{◌≡◌, Bool, true, false, if◌then◌else◌, [], ◌∷◌, ◌++◌, Option, Some, None, refl, sym, ap, subst, ◌∙◌}
use Rattle.std.proofs.lemmas.List.{append-nil}
use Rattle.std.specs.Option.{option_map, option_and_then}
use Rattle.wasm_typing.specs.Types.{Stack}
use Rattle.wasm_typing.specs.Matching.{TypeOrder, IsOrder, reflexive, matches, AllMatch}
use Rattle.wasm_typing.specs.Checking.{State, Holds, pop, all_match, is_none_left, closes}
use Rattle.wasm_typing.proofs.Orders.{both_true, matches_test, test_matches, matches_trans}

-- the test that a result shows to hold
pub chosen : {A : Type 0} (test : Bool) (o : Option A) (a : A) → (if test then o else None) ≡ Some a → (test ≡ true) × (o ≡ Some a)
chosen true o a e = (refl, e)
chosen false o a e = absurd (cc e)

pub choose : {A : Type 0} (test : Bool) (o : Option A) (a : A) → test ≡ true → o ≡ Some a → (if test then o else None) ≡ Some a
choose true o a e f = f
choose false o a e f = absurd (cc e)

pub mapped : {A B : Type 0} (f : A → B) (o : Option A) (b : B) → option_map f o ≡ Some b → (a : A) × (o ≡ Some a) × (f a ≡ b)
mapped f None b e = absurd (cc e)
mapped f (Some a) b e = (a, refl, cc e)

pub bound : {A B : Type 0} (f : A → Option B) (o : Option A) (b : B) → option_and_then f o ≡ Some b → (a : A) × (o ≡ Some a) × (f a ≡ Some b)
bound f None b e = absurd (cc e)
bound f (Some a) b e = (a, refl, e)

pub bind : {A B : Type 0} (f : A → Option B) (o : Option A) (a : A) (b : B) → o ≡ Some a → f a ≡ Some b → option_and_then f o ≡ Some b
bind f o a b e g = ap (option_and_then f) e ∙ g

module _ (O : TypeOrder) (ok : IsOrder O) where
  -- matching of stacks
  pub all_match_itself : (s : Stack) → AllMatch O s s
  all_match_itself [] = tt
  all_match_itself (v ∷ s) = (reflexive, all_match_itself s)

  pub all_match_test : (a b : Stack) → all_match O a b ≡ true → AllMatch O a b
  all_match_test [] [] e = tt
  all_match_test [] (y ∷ b) e = absurd (cc e)
  all_match_test (x ∷ a) [] e = absurd (cc e)
  all_match_test (x ∷ a) (y ∷ b) e = let h = both_true (matches O x y) (all_match O a b) e in (matches_test O ok x y h.0, all_match_test a b h.1)

  pub test_all_match : (a b : Stack) → AllMatch O a b → all_match O a b ≡ true
  test_all_match [] [] h = refl
  test_all_match [] (y ∷ b) h = elim h [ ]
  test_all_match (x ∷ a) [] h = elim h [ ]
  test_all_match (x ∷ a) (y ∷ b) h = ap (λ z. if z then all_match O a b else false) (test_matches O ok h.0) ∙ test_all_match a b h.1

  -- a stack that the frame may hold, with larger types
  pub holds_more : (k : Stack) (any : Bool) (s u : Stack) → Holds O k any s → AllMatch O s u → Holds O k any u
  holds_more [] true s u h m = tt
  holds_more [] false [] [] h m = refl
  holds_more [] false [] (y ∷ u) h m = elim m [ ]
  holds_more [] false (x ∷ s) u h m = absurd (cc h)
  holds_more (v ∷ k) any [] u h m = elim h [ ]
  holds_more (v ∷ k) any (x ∷ s) [] h m = elim m [ ]
  holds_more (v ∷ k) any (x ∷ s) (y ∷ u) h m = (matches_trans O ok v x y h.0 m.0, holds_more k any s u h.1 m.1)

  pub holds_itself : (k : Stack) (any : Bool) → Holds O k any k
  holds_itself [] true = tt
  holds_itself [] false = refl
  holds_itself (v ∷ k) any = (reflexive, holds_itself k any)

  pub match_append : (a b below : Stack) → AllMatch O a b → AllMatch O (a ++ below) (b ++ below)
  match_append [] [] below m = all_match_itself below
  match_append [] (y ∷ b) below m = elim m [ ]
  match_append (x ∷ a) [] below m = elim m [ ]
  match_append (x ∷ a) (y ∷ b) below m = (m.0, match_append a b below m.1)

  -- The frame may hold these operands above what may be left after the pop, and conversely.
  pub pop_sound : (want k : Stack) (any : Bool) (rest u : Stack) → pop O want k any ≡ Some rest → Holds O rest any u → Holds O k any (want ++ u)
  pop_sound [] k any rest u e h = subst (λ x. Holds O x any u) (let f : rest ≡ k = cc e in f) h
  pop_sound (v ∷ want) [] true rest u e h = tt
  pop_sound (v ∷ want) [] false rest u e h = absurd (cc e)
  pop_sound (v ∷ want) (x ∷ k) any rest u e h =
      let g = chosen (matches O x v) (pop O want k any) rest e in
      (matches_test O ok x v g.0, pop_sound want k any rest u g.1 h)

  pub pop_complete : (want k : Stack) (any : Bool) (s u : Stack) → Holds O k any (s ++ u) → AllMatch O s want →
      (rest : Stack) × (pop O want k any ≡ Some rest) × Holds O rest any u
  pop_complete [] k any [] u h m = (k, refl, h)
  pop_complete [] k any (x ∷ s) u h m = elim m [ ]
  pop_complete (v ∷ want) k any [] u h m = elim m [ ]
  pop_complete (v ∷ want) [] true (x ∷ s) u h m = pop_complete want [] true s u tt m.1
  pop_complete (v ∷ want) [] false (x ∷ s) u h m = absurd (cc h)
  pop_complete (v ∷ want) (y ∷ k) any (x ∷ s) u h m =
      let r = pop_complete want k any s u h.1 m.1 in
      (r.0, choose (matches O y v) (pop O want k any) r.0 (test_matches O ok (matches_trans O ok y x v h.0 m.0)) r.1, r.2)

  -- What the frame may hold after a push is these operands, or larger ones, above what it may hold before, and conversely.
  pub push_complete : (leaves k : Stack) (any : Bool) (u : Stack) → Holds O k any u → Holds O (leaves ++ k) any (leaves ++ u)
  push_complete [] k any u h = h
  push_complete (v ∷ leaves) k any u h = (reflexive, push_complete leaves k any u h)

  pub push_sound : (leaves k : Stack) (any : Bool) (w : Stack) → Holds O (leaves ++ k) any w →
      (s u : Stack) × (w ≡ s ++ u) × AllMatch O leaves s × Holds O k any u
  push_sound [] k any w h = ([], w, refl, tt, h)
  push_sound (v ∷ leaves) k any [] h = elim h [ ]
  push_sound (v ∷ leaves) k any (x ∷ w) h =
      let r = push_sound leaves k any w h.1 in
      (x ∷ r.0, r.1, ap (λ z. x ∷ z) r.2, (h.0, r.3), r.4)

  -- A construct may end if and only if the frame may hold its results and no more.
  none_left : (o : Option Stack) → is_none_left o ≡ true → o ≡ Some []
  none_left None e = absurd (cc e)
  none_left (Some []) e = refl
  none_left (Some (x ∷ s)) e = absurd (cc e)

  holds_empty : (any : Bool) → Holds O [] any []
  holds_empty true = tt
  holds_empty false = refl

  pub closes_sound : (leaves : Stack) (k : State) → closes O leaves k ≡ true → Holds O k.operands k.unreachable leaves
  closes_sound leaves k e =
      subst (λ x. Holds O k.operands k.unreachable x) (append-nil leaves)
      (pop_sound leaves k.operands k.unreachable [] [] (none_left (pop O leaves k.operands k.unreachable) e) (holds_empty k.unreachable))

  left_empty : (rest : Stack) (any : Bool) → Holds O rest any [] → rest ≡ []
  left_empty [] any h = refl
  left_empty (x ∷ rest) any h = elim h [ ]

  pub closes_complete : (leaves : Stack) (k : State) → Holds O k.operands k.unreachable leaves → closes O leaves k ≡ true
  closes_complete leaves k h =
      let r = pop_complete leaves k.operands k.unreachable leaves [] (subst (λ x. Holds O k.operands k.unreachable x) (sym (append-nil leaves)) h) (all_match_itself leaves) in
      ap is_none_left (r.1 ∙ ap (λ x. Some x) (left_empty r.0 k.unreachable r.2))
