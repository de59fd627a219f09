-- The locals that are set in each frame: additions, and ends of frames.
use Rattle.std.proofs.Common.{◌≡◌, ℕ, suc, ◌+◌, ◌-◌, ◌<◌, ◌≤◌, Bool, true, false, ◌||◌, if◌then◌else◌, List, [], ◌∷◌, ◌++◌, length, take, drop, reverse, get_or, Option, Some, None, Ok, Err, refl, sym, ap, subst, ◌∙◌, arith, add-one}
use Rattle.std.specs.Prelude.{Result, OnOk}
use Rattle.std.specs.Result.{is_err}
use Rattle.std.proofs.lemmas.List.{append-nil, reverse-append, length-reverse, take-append-drop, length-drop, get_or-reverse}
use Rattle.std.proofs.lemmas.Bool.{eqb-true}
use Rattle.std.proofs.Math.Seq.{drop-append_seam, drop-cons}
use Rattle.wasm_typing.specs.Rules.{is_member}
use Rattle.wasm_check_control.specs.SetLocals.{set_lists, AreHeights, set_now, set_outside, set_also}

pub now_is : (heights set : List ℕ) → AreHeights heights set → set_now (set_lists heights set) ≡ set
now_is [] set h = sym h
now_is (height ∷ heights) set h = refl

-- One more local.
later : (set : List ℕ) (x height : ℕ) → height ≤ length set → drop (length (x ∷ set) - height) (x ∷ set) ≡ drop (length set - height) set
later set x height p = ap (λ k. drop k (x ∷ set)) (let e : suc (length set) - height ≡ suc (length set - height) = omega (arith, p) in e)

reversed : (old new : List ℕ) (x : ℕ) → new ≡ old ++ x ∷ [] → reverse new ≡ x ∷ reverse old
reversed old new x e = ap reverse e ∙ reverse-append old (x ∷ [])

added : (heights set : List ℕ) (x : ℕ) → (heights ≡ [] → ⊥) → AreHeights heights set → set_lists heights (x ∷ set) ≡ set_also x (set_lists heights set)
added [] set x n h = absurd (n refl)
added (height ∷ heights) set x n h = ap (λ s. (x ∷ set) ∷ set_lists heights s) (later set x height h.0)

still : (heights set : List ℕ) (x : ℕ) → (heights ≡ [] → ⊥) → AreHeights heights set → AreHeights heights (x ∷ set)
still [] set x n h = absurd (n refl)
still (height ∷ heights) set x n h = (let p = h.0 in omega (arith, p), subst (AreHeights heights) (sym (later set x height h.0)) h.1)

some_left : (heights : List ℕ) → (heights ≡ [] → ⊥) → reverse heights ≡ [] → ⊥
some_left [] n e = n refl
some_left (h ∷ hs) n e = let a : length (reverse (h ∷ hs)) ≡ 0 = ap length e in let b = length-reverse (h ∷ hs) in absurd (omega (arith, a, b))

pub view_added : (heights old new : List ℕ) (x : ℕ) → (heights ≡ [] → ⊥) → new ≡ old ++ x ∷ [] → AreHeights (reverse heights) (reverse old) →
    set_lists (reverse heights) (reverse new) ≡ set_also x (set_lists (reverse heights) (reverse old))
view_added heights old new x n e h = ap (set_lists (reverse heights)) (reversed old new x e) ∙ added (reverse heights) (reverse old) x (some_left heights n) h

pub heights_added : (heights old new : List ℕ) (x : ℕ) → (heights ≡ [] → ⊥) → new ≡ old ++ x ∷ [] → AreHeights (reverse heights) (reverse old) → AreHeights (reverse heights) (reverse new)
heights_added heights old new x n e h = subst (AreHeights (reverse heights)) (sym (reversed old new x e)) (still (reverse heights) (reverse old) x (some_left heights n) h)

-- A new frame.
none_dropped : (set : List ℕ) (n : ℕ) → n ≡ length set → drop (length set - n) set ≡ set
none_dropped set n e = ap (λ k. drop k set) (let z : length set - n ≡ 0 = omega (arith, e) in z)

pub view_opened : (old new set : List ℕ) (n : ℕ) → new ≡ old ++ n ∷ [] → n ≡ length set → AreHeights (reverse old) (reverse set) →
    set_lists (reverse new) (reverse set) ≡ set_now (set_lists (reverse old) (reverse set)) ∷ set_lists (reverse old) (reverse set)
view_opened old new set n e is h =
    ap (λ hs. set_lists hs (reverse set)) (reversed old new n e) ∙
    ap (λ s. reverse set ∷ set_lists (reverse old) s) (none_dropped (reverse set) n (is ∙ sym (length-reverse set))) ∙
    ap (λ s. s ∷ set_lists (reverse old) (reverse set)) (sym (now_is (reverse old) (reverse set) h))

pub heights_opened : (old new set : List ℕ) (n : ℕ) → new ≡ old ++ n ∷ [] → n ≡ length set → AreHeights (reverse old) (reverse set) → AreHeights (reverse new) (reverse set)
heights_opened old new set n e is h =
    subst (λ hs. AreHeights hs (reverse set)) (sym (reversed old new n e))
    (let m = length-reverse set in omega (arith, is, m), subst (AreHeights (reverse old)) (sym (none_dropped (reverse set) n (is ∙ sym (length-reverse set)))) h)

-- The end of a frame.
cut : (height : ℕ) (set : List ℕ) → height ≤ length set → reverse (take height set) ≡ drop (length (reverse set) - height) (reverse set)
cut height set p =
    let parts : reverse set ≡ reverse (drop height set) ++ reverse (take height set) =
    ap reverse (sym (take-append-drop height set)) ∙ reverse-append (take height set) (drop height set) in
    let n : length (reverse (drop height set)) ≡ length set - height = length-reverse (drop height set) ∙ length-drop height set in
    let m : length (reverse set) ≡ length set = length-reverse set in
    let k : length (reverse set) - height ≡ length (reverse (drop height set)) = omega (arith, n, m) in
    sym (drop-append_seam (reverse (drop height set)) (reverse (take height set))) ∙ ap (λ j. drop j (reverse (drop height set) ++ reverse (take height set))) (sym k) ∙
    ap (drop (length (reverse set) - height)) (sym parts)

module _ (heights left old new : List ℕ) (height : ℕ) (popped : heights ≡ left ++ height ∷ []) (truncated : new ≡ take height old) (are : AreHeights (reverse heights) (reverse old)) where
  first : AreHeights (height ∷ reverse left) (reverse old)
  first = subst (λ hs. AreHeights hs (reverse old)) (reversed left heights height popped) are

  shorter : reverse new ≡ drop (length (reverse old) - height) (reverse old)
  shorter = ap reverse truncated ∙ cut height old (let m = length-reverse old in let p = first.0 in omega (arith, p, m))

  pub view_closed : set_lists (reverse left) (reverse new) ≡ set_outside (set_lists (reverse heights) (reverse old))
  view_closed = ap (set_lists (reverse left)) shorter ∙ ap (λ hs. set_outside (set_lists hs (reverse old))) (sym (reversed left heights height popped))

  pub heights_closed : AreHeights (reverse left) (reverse new)
  heights_closed = subst (AreHeights (reverse left)) (sym shorter) first.1

pub nil : {A : Type 0} (xs : List A) → length xs ≡ 0 → xs ≡ []
nil [] e = refl
nil (x ∷ xs) e = absurd (omega (arith, e))

-- A frame is open if its list is there.
pub some_heights : (heights set first : List ℕ) (others : List (List ℕ)) → set_lists (reverse heights) set ≡ first ∷ others → heights ≡ [] → ⊥
some_heights heights set first others e n = absurd (cc (sym (ap (λ h. set_lists (reverse h) set) n) ∙ e))

pub on_ok : {X E : Type 0} (r : Result X E) (P : Type 0) → OnOk r P → is_err r ≡ false → P
on_ok (Ok x) P h e = h
on_ok (Err x) P h e = absurd (cc e)
