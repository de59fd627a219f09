use Rattle.std.proofs.Common.{◌≡◌, ℕ, zero, suc, ◌<◌, List, [], ◌∷◌, length, refl, sym, ap, arith, get_or, set, cond, true, false, nat_eq}
use Rattle.std.specs.Cmp.Lexicographic.{pointwise}
use Rattle.wasm_listing.specs.Census.{one_more_of, one_more}

-- The counts after this many proposals were compared.
abbrev pub counted_first : ℕ → List ℕ → List (List ℕ) → List ℕ → List ℕ
counted_first zero proposal ps ns = ns
counted_first (suc i) proposal (p ∷ ps) (n ∷ ns) = cond (pointwise nat_eq p proposal) (one_more n) n ∷ counted_first i proposal ps ns
counted_first (suc i) proposal _ ns = ns

pub first_all : (i : ℕ) (proposal : List ℕ) (ps : List (List ℕ)) (ns : List ℕ) → length ps ≡ length ns → i ≡ length ns →
    counted_first i proposal ps ns ≡ one_more_of proposal ps ns
first_all zero proposal [] [] e h = refl
first_all (suc i) proposal [] [] e h = absurd (omega (arith, h))
first_all i proposal (p ∷ ps) [] e h = absurd (omega (arith, e))
first_all i proposal [] (n ∷ ns) e h = absurd (omega (arith, e))
first_all zero proposal (p ∷ ps) (n ∷ ns) e h = absurd (omega (arith, h))
first_all (suc i) proposal (p ∷ ps) (n ∷ ns) e h = ap (λ others. cond (pointwise nat_eq p proposal) (one_more n) n ∷ others)
    (first_all i proposal ps ns (omega (arith, e)) (omega (arith, h)))

pub first_more : (i : ℕ) (proposal : List ℕ) (ps : List (List ℕ)) (ns : List ℕ) → length ps ≡ length ns → i < length ns →
    pointwise nat_eq (get_or ps i []) proposal ≡ true →
    set (counted_first i proposal ps ns) i (one_more (get_or (counted_first i proposal ps ns) i 0)) ≡ counted_first (suc i) proposal ps ns
first_more i proposal ps [] e h same = absurd (omega (arith, h))
first_more i proposal [] (n ∷ ns) e h same = absurd (omega (arith, e))
first_more zero proposal (p ∷ ps) (n ∷ ns) e h same = ap (λ b. cond b (one_more n) n ∷ ns) (sym same)
first_more (suc i) proposal (p ∷ ps) (n ∷ ns) e h same = ap (λ others. cond (pointwise nat_eq p proposal) (one_more n) n ∷ others)
    (first_more i proposal ps ns (omega (arith, e)) (omega (arith, h)) same)

pub first_other : (i : ℕ) (proposal : List ℕ) (ps : List (List ℕ)) (ns : List ℕ) → length ps ≡ length ns → i < length ns →
    pointwise nat_eq (get_or ps i []) proposal ≡ false → counted_first i proposal ps ns ≡ counted_first (suc i) proposal ps ns
first_other i proposal ps [] e h other = absurd (omega (arith, h))
first_other i proposal [] (n ∷ ns) e h other = absurd (omega (arith, e))
first_other zero proposal (p ∷ ps) (n ∷ ns) e h other = ap (λ b. cond b (one_more n) n ∷ ns) (sym other)
first_other (suc i) proposal (p ∷ ps) (n ∷ ns) e h other = ap (λ others. cond (pointwise nat_eq p proposal) (one_more n) n ∷ others)
    (first_other i proposal ps ns (omega (arith, e)) (omega (arith, h)) other)
