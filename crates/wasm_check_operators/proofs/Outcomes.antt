-- What a step says of the frames in which locals are set.
use Rattle.std.proofs.Common.{◌≡◌, ◌↔◌, ℕ, Bool, true, false, if◌then◌else◌, List, [], ◌∷◌, Option, Some, None, Ok, Err, IsTrue, refl, sym, ap, subst, ◌∙◌}
use Rattle.std.specs.Prelude.{Result, IfOk}
use Rattle.wasm_typing.specs.Steps.{Frame}
use Rattle.wasm_check_control.specs.SetLocals.{set_now, set_outside, set_in_else, with_set, next_with}
use Rattle.wasm_check_control.specs.State.{Answers, around}
use Rattle.wasm_check_control.proofs.WithSet.{answers_with}

pub kept : {X : Type 0} (r : Result Bool X) (o : Option (List Frame)) (new : List Frame) (sets : List (List ℕ)) → IfOk r (λ yes. Answers yes o new) →
    IfOk r (λ yes. Answers yes (next_with sets o) (with_set new sets))
kept (Ok b) o new sets h = answers_with b o (next_with sets o) new sets refl h
kept (Err x) o new sets h = tt

pub fails : (b : Bool) (o : Option (List Frame)) (new : List Frame) (sets : List (List ℕ)) → b ≡ false → Answers b o new → next_with sets o ≡ None
fails true o new sets e h = absurd (cc e)
fails false o new sets e h = ap (next_with sets) h

pub succeeds : (b : Bool) (o : Option (List Frame)) (new : List Frame) (sets now : List (List ℕ)) → b ≡ true → Answers b o new → now ≡ sets → next_with sets o ≡ Some (with_set new now)
succeeds true o new sets now e h s = ap (next_with sets) h ∙ ap (λ x. Some (with_set new x)) (sym s)
succeeds false o new sets now e h s = absurd (cc e)

-- The lists of an else.
pub else_sets : (b : Bool) (frames : List Frame) (sets mid new : List (List ℕ)) → (IsTrue b ↔ (around frames ≡ [])) → mid ≡ (if b then [] else set_outside sets) →
    new ≡ set_now mid ∷ mid → new ≡ set_in_else (around frames) sets
else_sets true frames sets mid new h e n =
    n ∙ ap (λ (m : List (List ℕ)). set_now m ∷ m) e ∙ ap (λ (fs : List Frame). set_in_else fs sets) (sym (h.0 refl))
else_sets false frames sets mid new h e n = go (around frames) (λ z. cc (h.1 z))
  where
    go : (fs : List Frame) → (fs ≡ [] → ⊥) → new ≡ set_in_else fs sets
    go [] none = absurd (none refl)
    go (f ∷ fs) none = n ∙ ap (λ (m : List (List ℕ)). set_now m ∷ m) e

pub none_chosen : (b : Bool) (o : Option (List Frame)) → b ≡ false → (if b then o else None) ≡ None
none_chosen true o e = absurd (cc e)
none_chosen false o e = refl

pub some_chosen : {X : Type 0} (b : Bool) (r : Result Bool X) (o : Option (List Frame)) (new : List Frame) → b ≡ true → IfOk r (λ yes. Answers yes o new) →
    IfOk r (λ yes. Answers yes (if b then o else None) new)
some_chosen true r o new e h = h
some_chosen false r o new e h = absurd (cc e)

pub first_of_two : {A : Type 0} (b : Bool) (x y : A) → b ≡ true → x ≡ (if b then x else y)
first_of_two true x y e = refl
first_of_two false x y e = absurd (cc e)

pub second_of_two : {A : Type 0} (b : Bool) (x y z : A) → b ≡ false → z ≡ y → z ≡ (if b then x else y)
second_of_two true x y z e s = absurd (cc e)
second_of_two false x y z e s = s
