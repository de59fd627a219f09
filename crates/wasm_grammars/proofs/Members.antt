-- Reading a list, of which `i` of `n` members are read.
use Rattle.std.proofs.Common.{◌≡◌, ℕ, suc, ◌+◌, ◌-◌, ◌<◌, ◌≤◌, List, [], ◌∷◌, ◌++◌, sym, subst, arith}
use Rattle.wasm_below.specs.declared.error.Error.{Error}
use Rattle.wasm_below.specs.Number.{EncodesSize}
use Rattle.wasm_below.specs.Source.{Reader, offset_of, end_of, HasRead}
use Rattle.wasm_below.proofs.Steps.{unsigned_some}
use Rattle.wasm_grammars.specs.Grammar.{Grammar, HasReadBy}
use Rattle.wasm_grammars.specs.Parts.{more}
use Rattle.wasm_grammars.specs.Reading.{Fails}
use Rattle.wasm_grammars.proofs.Steps.{Comes, then, fails_first, ends_as, within, kept}

pub list_begins : {X : Type 0} (h : Grammar X) {s : ℕ} {g : Grammar (List X)} {old now : Reader} (n : ℕ) (xs : List X) → xs ≡ [] →
    Comes s g old (more n h []) now → Comes s g old (more (n - 0) h xs) now
list_begins h {s} {g} {old} {now} n xs none c =
    subst (λ k. Comes s g old (more k h xs) now) (let whole : n ≡ n - 0 = omega arith in whole) (subst (λ z. Comes s g old (more n h z) now) (sym none) c)

-- `g` reads a list of members `h`.
module _ {X : Type 0} (h : Grammar X) {s : ℕ} {g : Grammar (List X)} {old now : Reader} (n i : ℕ) (xs : List X) (c : Comes s g old (more (n - i) h xs) now) where
  left : i < n → n - i ≡ suc (n - (i + 1))
  left few = omega arith

  again : i < n → Comes s g old (more (suc (n - (i + 1))) h xs) now
  again few = subst (λ k. Comes s g old (more k h xs) now) (left few) c

  pub member : i < n → (x : X) {mid : Reader} {ys : List X} → ys ≡ xs ++ x ∷ [] → HasReadBy h x now mid → Comes s g old (more (n - (i + 1)) h ys) mid
  member few x {mid} {ys} pushed k = subst (λ z. Comes s g old (more (n - (i + 1)) h z) mid) (sym pushed) (then (again few) k)

  pub member_fails : i < n → {e : Error} → Fails h s e now → Fails g s e old
  member_fails few k = fails_first (again few) k

  pub list_ends : i ≡ n → (ys : List X) → ys ≡ xs → HasReadBy g ys old now
  list_ends all ys same = ends_as (subst (λ k. Comes s g old (more k h xs) now) (let none : n - i ≡ 0 = omega arith in none) c) (sym same)

-- A count was read.
pub counting : {s limit n : ℕ} {old copy mid : Reader} → copy ≡ old → s ≤ offset_of old → HasRead (EncodesSize limit) n copy mid → s ≤ end_of mid
counting {s} {limit} {n} {old} {copy} {mid} same le (text, p, t) =
    kept (within t (subst (λ r. s ≤ offset_of r) (sym same) le) (unsigned_some 32 text n p.0)) t
