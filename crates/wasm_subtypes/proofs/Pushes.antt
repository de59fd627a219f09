-- Numbers that a loop appends.
use Rattle.std.proofs.Common.{◌≡◌, ℕ, suc, ◌+◌, ◌<◌, ◌≤◌, List, [], ◌∷◌, ◌++◌, map, length, take, get_or, refl, sym, ap, ◌∙◌, append_assoc, add-one}
use Rattle.std.proofs.lemmas.List.{append-nil, map-append}
use Rattle.std.proofs.Math.Seq.{take-suc}
use Rattle.wasm_types.specs.declared.recursive.SubType.{SubType}
use Rattle.wasm_subtypes.specs.Keys.{type_numbers, group_numbers}

pub one_more : {A : Type 0} (h : A → ℕ) (xs : List A) (i : ℕ) (x : A) (first now next : List ℕ) → i < length xs → get_or xs i x ≡ x →
    now ≡ first ++ map h (take i xs) → next ≡ now ++ h x ∷ [] → next ≡ first ++ map h (take (i + 1) xs)
one_more h xs i x first now next p is so_far pushed =
    pushed ∙ ap (λ l. l ++ h x ∷ []) so_far ∙ append_assoc first (map h (take i xs)) (h x ∷ []) ∙
    ap (λ l. first ++ l) (sym (map-append h (take i xs) (x ∷ []))) ∙
    ap (λ y. first ++ map h (take i xs ++ y ∷ [])) (sym is) ∙
    ap (λ l. first ++ map h l) (sym (take-suc xs i x p)) ∙ ap (λ k. first ++ map h (take k xs)) (sym (add-one i))

group_append : (f : ℕ → ℕ) (xs ys : List SubType) → group_numbers f (xs ++ ys) ≡ group_numbers f xs ++ group_numbers f ys
group_append f [] ys = refl
group_append f (x ∷ xs) ys = ap (λ l. type_numbers f x ++ l) (group_append f xs ys) ∙ sym (append_assoc (type_numbers f x) (group_numbers f xs) (group_numbers f ys))

pub one_more_type : (f : ℕ → ℕ) (xs : List SubType) (i : ℕ) (x : SubType) (now next : List ℕ) → i < length xs → get_or xs i x ≡ x →
    now ≡ group_numbers f (take i xs) → next ≡ now ++ type_numbers f x → next ≡ group_numbers f (take (i + 1) xs)
one_more_type f xs i x now next p is so_far pushed =
    pushed ∙ ap (λ l. l ++ type_numbers f x) so_far ∙
    ap (λ l. group_numbers f (take i xs) ++ l) (sym (append-nil (type_numbers f x))) ∙
    sym (group_append f (take i xs) (x ∷ [])) ∙
    ap (λ y. group_numbers f (take i xs ++ y ∷ [])) (sym is) ∙
    ap (group_numbers f) (sym (take-suc xs i x p)) ∙ ap (λ k. group_numbers f (take k xs)) (sym (add-one i))
