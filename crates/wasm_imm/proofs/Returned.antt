-- The items of an iterator over the targets of a branch table.
use Rattle.std.proofs.Common.{◌≡◌, ℕ, List, [], ◌∷◌, Result, Ok, Err, map, refl, sym, ap, subst, ◌∙◌}
use Rattle.wasm_below.specs.declared.error.Error.{Error}

abbrev oks : List ℕ → List (Result ℕ Error)
oks ns = map Ok ns

abbrev returned : Result ℕ Error → ℕ
returned (Ok n) = n
returned (Err e) = 0

all_returned : (ns : List ℕ) → map returned (oks ns) ≡ ns
all_returned [] = refl
all_returned (n ∷ ns) = ap (λ ms. n ∷ ms) (all_returned ns)

pub first_returned : (old new : List ℕ) (target : Result ℕ Error) (label : ℕ) → map Ok old ≡ target ∷ map Ok new → target ≡ Ok label → old ≡ label ∷ new
first_returned old new target label e is =
    sym (all_returned old) ∙ ap (map returned) e ∙ ap (λ ns. returned target ∷ ns) (all_returned new) ∙ ap (λ t. returned t ∷ new) is

pub none_returned : (old : List ℕ) → oks old ≡ [] → old ≡ []
none_returned old e = sym (all_returned old) ∙ ap (map returned) e

abbrev IsFirstOk : List (Result ℕ Error) → Type 0
IsFirstOk (Err e ∷ rs) = ⊥
IsFirstOk _ = Unit {0}

firsts_ok : (ns : List ℕ) → IsFirstOk (oks ns)
firsts_ok [] = tt
firsts_ok (n ∷ ns) = tt

pub never_refused : (old new : List ℕ) (target : Result ℕ Error) (e : Error) → map Ok old ≡ target ∷ map Ok new → target ≡ Err e → ⊥
never_refused old new target e steps is = subst (λ t. IsFirstOk (t ∷ oks new)) is (subst IsFirstOk steps (firsts_ok old))
