-- The operand stack in segments: pushes, pops, and ends of segments.
use Rattle.std.proofs.Common.{◌≡◌, ℕ, suc, ◌-◌, ◌<◌, ◌≤◌, List, [], ◌∷◌, ◌++◌, length, take, drop, reverse, Option, Some, None, refl, sym, ap, subst, ◌∙◌, arith}
use Rattle.std.specs.Option.{option_to_list}
use Rattle.std.specs.Prelude.{MatchOption}
use Rattle.std.proofs.lemmas.List.{append-nil, reverse-append, length-reverse, take-append-drop, length-drop, length-take-le}
use Rattle.std.proofs.Math.Seq.{drop-append_seam}
use Rattle.wasm_typing.specs.declared.value_type.ValueType.{ValueType}
use Rattle.wasm_typing.specs.Types.{Stack}
use Rattle.wasm_check_control.specs.Segments.{segments, floors_of, AreFloors, innermost, outer, with_innermost, Popped}

longer : (n h : ℕ) → h ≤ n → suc n - h ≡ suc (n - h)
longer n h p = omega (arith, p)

pushed : (hs : List ℕ) (v : ValueType) (ops : Stack) → AreFloors hs (length ops) →
    segments hs (v ∷ ops) ≡ with_innermost (v ∷ innermost (segments hs ops)) (segments hs ops)
pushed [] v ops f = refl
pushed (h ∷ hs) v ops f = ap (λ k. take k (v ∷ ops) ∷ segments hs (drop k (v ∷ ops))) (longer (length ops) h f.0)

pub floors_weaken : (hs : List ℕ) (n m : ℕ) → AreFloors hs n → n ≤ m → AreFloors hs m
floors_weaken [] n m f p = tt
floors_weaken (h ∷ hs) n m f p = (let q = f.0 in omega (arith, p, q), f.1)

reversed_push : (xs ys : Stack) (v : ValueType) → ys ≡ xs ++ v ∷ [] → reverse ys ≡ v ∷ reverse xs
reversed_push xs ys v e = ap reverse e ∙ reverse-append xs (v ∷ [])

-- after a push
pub view_push : (hs : List ℕ) (xs ys : Stack) (v : ValueType) (old : List Stack) → AreFloors hs (length (reverse xs)) →
    segments hs (reverse xs) ≡ old → ys ≡ xs ++ v ∷ [] → segments hs (reverse ys) ≡ with_innermost (v ∷ innermost old) old
view_push hs xs ys v old f is e =
    ap (segments hs) (reversed_push xs ys v e) ∙ pushed hs v (reverse xs) f ∙ ap (λ o. with_innermost (v ∷ innermost o) o) is

pub floors_push : (hs : List ℕ) (xs ys : Stack) (v : ValueType) → AreFloors hs (length (reverse xs)) → ys ≡ xs ++ v ∷ [] → AreFloors hs (length (reverse ys))
floors_push hs xs ys v f e =
    floors_weaken hs (length (reverse xs)) (length (reverse ys)) f (let n : length (reverse ys) ≡ suc (length (reverse xs)) = ap length (reversed_push xs ys v e) in omega (arith, n))

-- after a pop
pub floors_pop : (h : ℕ) (hs : List ℕ) (xs ys : Stack) (o : Option ValueType) → AreFloors (h ∷ hs) (length (reverse xs)) → h < length xs →
    xs ≡ ys ++ option_to_list o → AreFloors (h ∷ hs) (length (reverse ys))
floors_pop h hs xs ys None f p e = subst (λ x. AreFloors (h ∷ hs) (length (reverse x))) (e ∙ append-nil ys) f
floors_pop h hs xs ys (Some v) f p e =
    let n : length (reverse xs) ≡ suc (length (reverse ys)) = ap length (reversed_push ys xs v e) in
    let m : length (reverse xs) ≡ length xs = length-reverse xs in
    (omega (arith, n, m, p), f.1)

pub view_pop : (h : ℕ) (hs : List ℕ) (xs ys : Stack) (o : Option ValueType) (old : List Stack) → AreFloors (h ∷ hs) (length (reverse xs)) → h < length xs →
    segments (h ∷ hs) (reverse xs) ≡ old → xs ≡ ys ++ option_to_list o → (o ≡ None → length xs ≡ 0) → Popped o old (segments (h ∷ hs) (reverse ys))
view_pop h hs xs ys None old f p is e none = let n = none refl in absurd (omega (arith, n, p))
view_pop h hs xs ys (Some v) old f p is e none =
    let g : AreFloors (h ∷ hs) (length (reverse ys)) = floors_pop h hs xs ys (Some v) f p e in
    let s : segments (h ∷ hs) (reverse xs) ≡ with_innermost (v ∷ innermost (segments (h ∷ hs) (reverse ys))) (segments (h ∷ hs) (reverse ys)) =
    view_push (h ∷ hs) ys xs v (segments (h ∷ hs) (reverse ys)) g refl e in
    (innermost (segments (h ∷ hs) (reverse ys)), ap innermost (sym is ∙ s), ap (λ o. with_innermost (innermost (segments (h ∷ hs) (reverse ys))) o) (sym s ∙ is))

take_none : (k : ℕ) (ops : Stack) → k ≡ 0 → take k ops ≡ []
take_none k ops e = ap (λ j. take j ops) e

pub view_empty : (h : ℕ) (hs : List ℕ) (xs : Stack) (old : List Stack) → segments (h ∷ hs) (reverse xs) ≡ old → length xs ≤ h → innermost old ≡ []
view_empty h hs xs old is p =
    let m : length (reverse xs) ≡ length xs = length-reverse xs in
    ap innermost (sym is) ∙ take_none (length (reverse xs) - h) (reverse xs) (omega (arith, m, p))

taken_some : (k : ℕ) (ops : Stack) → k ≤ length ops → take k ops ≡ [] → k ≡ 0
taken_some k ops p e = let n = length-take-le k ops p in let m : length (take k ops) ≡ 0 = ap length e in omega (arith, n, m)

pub empty_view : (h : ℕ) (hs : List ℕ) (xs : Stack) (old : List Stack) → segments (h ∷ hs) (reverse xs) ≡ old → innermost old ≡ [] → length xs ≤ h
empty_view h hs xs old is e =
    let m : length (reverse xs) ≡ length xs = length-reverse xs in
    let z : length (reverse xs) - h ≡ 0 = taken_some (length (reverse xs) - h) (reverse xs) (omega arith) (ap innermost is ∙ e) in
    omega (arith, m, z)

-- after the operands above a floor are removed
cut : (h : ℕ) (xs : Stack) → h ≤ length xs → reverse (take h xs) ≡ drop (length (reverse xs) - h) (reverse xs)
cut h xs p =
    let parts : reverse xs ≡ reverse (drop h xs) ++ reverse (take h xs) =
    ap reverse (sym (take-append-drop h xs)) ∙ reverse-append (take h xs) (drop h xs) in
    let n : length (reverse (drop h xs)) ≡ length xs - h = length-reverse (drop h xs) ∙ length-drop h xs in
    let m : length (reverse xs) ≡ length xs = length-reverse xs in
    let k : length (reverse xs) - h ≡ length (reverse (drop h xs)) = omega (arith, n, m) in
    sym (drop-append_seam (reverse (drop h xs)) (reverse (take h xs))) ∙ ap (λ j. drop j (reverse (drop h xs) ++ reverse (take h xs))) (sym k) ∙
    ap (drop (length (reverse xs) - h)) (sym parts)

cut_length : (h : ℕ) (xs : Stack) → h ≤ length xs → length (reverse (take h xs)) ≡ h
cut_length h xs p = length-reverse (take h xs) ∙ length-take-le h xs p

floor_fits : (h : ℕ) (xs : Stack) → h ≤ length (reverse xs) → h ≤ length xs
floor_fits h xs p = let m : length (reverse xs) ≡ length xs = length-reverse xs in omega (arith, m, p)

pub view_cut : (h : ℕ) (hs : List ℕ) (xs ys : Stack) (old : List Stack) → AreFloors (h ∷ hs) (length (reverse xs)) →
    segments (h ∷ hs) (reverse xs) ≡ old → ys ≡ take h xs → segments hs (reverse ys) ≡ outer old
view_cut h hs xs ys old f is e =
    ap (λ y. segments hs (reverse y)) e ∙ ap (segments hs) (cut h xs (floor_fits h xs f.0)) ∙ ap outer is

pub floors_cut : (h : ℕ) (hs : List ℕ) (xs ys : Stack) → AreFloors (h ∷ hs) (length (reverse xs)) → ys ≡ take h xs → AreFloors (h ∷ hs) (length (reverse ys))
floors_cut h hs xs ys f e =
    let n : length (reverse ys) ≡ h = ap (λ y. length (reverse y)) e ∙ cut_length h xs (floor_fits h xs f.0) in
    (omega (arith, n), f.1)

emptied : (h : ℕ) (hs : List ℕ) (ops : Stack) → length ops ≡ h → segments (h ∷ hs) ops ≡ [] ∷ segments hs ops
emptied h hs ops e = let z : length ops - h ≡ 0 = omega (arith, e) in ap (λ k. take k ops ∷ segments hs (drop k ops)) z

pub view_clear : (h : ℕ) (hs : List ℕ) (xs ys : Stack) (old : List Stack) → AreFloors (h ∷ hs) (length (reverse xs)) →
    segments (h ∷ hs) (reverse xs) ≡ old → ys ≡ take h xs → segments (h ∷ hs) (reverse ys) ≡ with_innermost [] old
view_clear h hs xs ys old f is e =
    emptied h hs (reverse ys) (ap (λ y. length (reverse y)) e ∙ cut_length h xs (floor_fits h xs f.0)) ∙
    ap (λ o. [] ∷ o) (view_cut h hs xs ys (segments (h ∷ hs) (reverse xs)) f refl e) ∙ ap (with_innermost []) is

-- the floors below one that was popped
pub popped_floors : (below next : List ℕ) (o : Option ℕ) → below ≡ next ++ option_to_list o → (o ≡ None → length below ≡ 0) → reverse below ≡ floors_of o next
popped_floors below next None e none = let n = none refl in nil below n
  where
    nil : (xs : List ℕ) → length xs ≡ 0 → reverse xs ≡ []
    nil [] e = refl
    nil (x ∷ xs) e = absurd (omega (arith, e))
popped_floors below next (Some h) e none = ap reverse e ∙ reverse-append next (h ∷ [])

pub opened_floors : (xs : Stack) (below : List ℕ) (h : ℕ) (next : List ℕ) → next ≡ below ++ h ∷ [] → reverse next ≡ h ∷ reverse below
opened_floors xs below h next e = ap reverse e ∙ reverse-append below (h ∷ [])

pub view_open : (hs : List ℕ) (xs : Stack) (n : ℕ) (old : List Stack) → n ≡ length xs → segments hs (reverse xs) ≡ old → segments (n ∷ hs) (reverse xs) ≡ [] ∷ old
view_open hs xs n old e is = emptied n hs (reverse xs) (length-reverse xs ∙ sym e) ∙ ap (λ o. [] ∷ o) is

-- the same if there is a highest floor
module _ (o : Option ℕ) (below : List ℕ) (h : ℕ) (there : o ≡ Some h) where
  here : floors_of o below ≡ h ∷ reverse below
  here = ap (λ x. floors_of x below) there

  pub pop_there : (xs ys : Stack) (r : Option ValueType) (old : List Stack) → AreFloors (floors_of o below) (length (reverse xs)) → h < length xs →
      segments (floors_of o below) (reverse xs) ≡ old → xs ≡ ys ++ option_to_list r → (r ≡ None → length xs ≡ 0) →
      Popped r old (segments (floors_of o below) (reverse ys))
  pop_there xs ys r old f p is e none =
      subst (λ hs. Popped r old (segments hs (reverse ys))) (sym here)
      (view_pop h (reverse below) xs ys r old (subst (λ hs. AreFloors hs (length (reverse xs))) here f) p (subst (λ hs. segments hs (reverse xs) ≡ old) here is) e none)

  pub clear_there : (xs ys : Stack) (old : List Stack) → AreFloors (floors_of o below) (length (reverse xs)) →
      segments (floors_of o below) (reverse xs) ≡ old → ys ≡ take h xs → segments (floors_of o below) (reverse ys) ≡ with_innermost [] old
  clear_there xs ys old f is e =
      subst (λ hs. segments hs (reverse ys) ≡ with_innermost [] old) (sym here)
      (view_clear h (reverse below) xs ys old (subst (λ hs. AreFloors hs (length (reverse xs))) here f) (subst (λ hs. segments hs (reverse xs) ≡ old) here is) e)

  pub close_there : (xs ys : Stack) (old : List Stack) (next : List ℕ) (r : Option ℕ) → AreFloors (floors_of o below) (length (reverse xs)) →
      segments (floors_of o below) (reverse xs) ≡ old → ys ≡ take h xs → below ≡ next ++ option_to_list r → (r ≡ None → length below ≡ 0) →
      segments (floors_of r next) (reverse ys) ≡ outer old
  close_there xs ys old next r f is e g none =
      ap (λ hs. segments hs (reverse ys)) (sym (popped_floors below next r g none)) ∙
      view_cut h (reverse below) xs ys old (subst (λ hs. AreFloors hs (length (reverse xs))) here f) (subst (λ hs. segments hs (reverse xs) ≡ old) here is) e

pub at_none : {A : Type 0} (r : Option A) (P : Type 0) (Q : A → Type 0) → MatchOption r P Q → r ≡ None → P
at_none None P Q m e = m
at_none (Some a) P Q m e = absurd (cc e)
