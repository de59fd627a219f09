-- Lanes below a number, one after another.
use Rattle.std.proofs.Common.{◌≡◌, ℕ, zero, suc, ◌+◌, ◌<◌, ◌≤◌, Bool, true, false, if◌then◌else◌, List, [], ◌∷◌, length, drop, get_or, refl, sym, ap, ◌∙◌, arith, add-one}
use Rattle.std.specs.Prelude.{nat_lt}
use Rattle.std.proofs.Math.Seq.{drop-cons}
use Rattle.wasm_check_operators.specs.Forms.{are_below}

-- The test of one lane decides about the rest.
pub lane_tested : (n : ℕ) (lanes : List ℕ) (i d : ℕ) (test : Bool) → i < length lanes → nat_lt (get_or lanes i d) n ≡ test →
    are_below n (drop i lanes) ≡ are_below n lanes → (if test then are_below n (drop (i + 1) lanes) else false) ≡ are_below n lanes
lane_tested n lanes i d test p t h =
    ap (λ k. if test then are_below n (drop k lanes) else false) (add-one i) ∙ ap (λ b. if b then are_below n (drop (suc i) lanes) else false) (sym t) ∙ ap (are_below n) (sym (drop-cons lanes i d p)) ∙ h

dropped : (lanes : List ℕ) (i : ℕ) → length lanes ≤ i → drop i lanes ≡ []
dropped [] zero p = refl
dropped [] (suc i) p = refl
dropped (lane ∷ lanes) zero p = absurd (omega (arith, p))
dropped (lane ∷ lanes) (suc i) p = dropped lanes i (omega (arith, p))

pub all_tested : (n : ℕ) (lanes : List ℕ) (i : ℕ) → length lanes ≤ i → are_below n (drop i lanes) ≡ are_below n lanes → true ≡ are_below n lanes
all_tested n lanes i p h = ap (are_below n) (sym (dropped lanes i p)) ∙ h
