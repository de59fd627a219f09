-- Values that are read one after the other: only the last is kept, or both are.
use Rattle.std.proofs.Common.{◌≡◌, ℕ, ◌+◌, List, ◌++◌, refl, ap, sym, ◌∙◌}
use Rattle.wasm_below.specs.declared.error.Error.{Error}
use Rattle.wasm_below.specs.declared.message.Message.{Message}
use Rattle.wasm_below.specs.Fault.{ThenFault}
use Rattle.wasm_below.specs.Sequence.{Then, PrefixCode}
use Rattle.wasm_below.specs.Source.{Reader, HasRead}
use Rattle.wasm_below.specs.Ahead.{Fails}
use Rattle.wasm_module.specs.Both.{Both}
use Rattle.wasm_module.specs.Imports.{SomeOf}
use Rattle.wasm_below.proofs.Ahead.{first_fails, second_fails, fails_as}
use Rattle.wasm_below.proofs.Sequences.{then_prefix_code}
use Rattle.wasm_below.proofs.TakesLemmas.{takes_then}

module _ {X Y : Type 0} (P : List ℕ → X → Type 0) (Q : X → List ℕ → Y → Type 0) where
  pub then_read : {old mid new : Reader} {x : X} {y : Y} → HasRead P x old mid → HasRead (Q x) y mid new → HasRead (Then P Q) y old new
  then_read {old} {mid} {new} {x} {y} (a, p, t) (b, q, u) = (a ++ b, (a, b, x, refl, p, q), takes_then old mid new a b t u)

module _ {X Y Z : Type 0} (P : List ℕ → X → Type 0) (Q : List ℕ → Y → Type 0) (parts : Z → X × Y) where
  abbrev pub Whole : List ℕ → Z → Type 0
  Whole text z = Both P Q text (parts z)

  abbrev pub Second : X → List ℕ → Z → Type 0
  Second x text z = (x ≡ (parts z).0) × Q text (parts z).1

  abbrev pub one_after : (text : List ℕ) (z : Z) → Whole text z → (same : Z) × Then P Second text same
  one_after text z b = (z, (b.0, b.1, (parts z).0, b.2, b.3, (refl, b.4)))

  pub both_code : PrefixCode P → PrefixCode Q → (make : X × Y → Z) → ((z : Z) → make (parts z) ≡ z) → PrefixCode Whole
  both_code first second make made a b x y m n p q e =
      then_prefix_code P Second first (λ v. second_code v) a b x y m n (one_after a m p).1 (one_after b n q).1 e
    where
      second_code : (v : X) → PrefixCode (Second v)
      second_code v a b x y m n p q e =
          let o = second a b x y (parts m).1 (parts n).1 p.1 q.1 e in
          let same : parts m ≡ parts n = ap (λ k. (k, (parts m).1)) (sym p.0 ∙ q.0) ∙ ap (λ k. ((parts n).0, k)) o.1 in
          (o.0, sym (made m) ∙ ap make same ∙ made n)

module _ {X Y Z : Type 0} (P : List ℕ → X → Type 0) (Q : List ℕ → Y → Type 0) (F : Message → Reader → ℕ → Type 0)
    (G : X → Message → Reader → ℕ → Type 0) (parts : Z → X × Y) where
  pub both_first : {e : Error} {old : Reader} → Fails P F e old → Fails (Whole P Q parts) (ThenFault P F G) e old
  both_first h =
      fails_as (Then P (Second P Q parts)) (Whole P Q parts) (ThenFault P F G) (ThenFault P F G) (one_after P Q parts) (λ f. f)
      (first_fails P (Second P Q parts) F G h)

  pub both_second : PrefixCode P → {e : Error} {old mid : Reader} {x : X} → HasRead P x old mid → Fails Q (G x) e mid →
      Fails (Whole P Q parts) (ThenFault P F G) e old
  both_second code {x = x} first second =
      fails_as (Then P (Second P Q parts)) (Whole P Q parts) (ThenFault P F G) (ThenFault P F G) (one_after P Q parts) (λ f. f)
      (second_fails P (Second P Q parts) F G code first
      (fails_as Q (Second P Q parts x) (G x) (G x) (λ text z b. ((parts z).1, b.1)) (λ f. f) second))

pub both_read : {X Y : Type 0} (P : List ℕ → X → Type 0) (Q : List ℕ → Y → Type 0) {old mid new : Reader} {x : X} {y : Y} → HasRead P x old mid →
    HasRead Q y mid new → HasRead (Both P Q) (x, y) old new
both_read P Q {old} {mid} {new} {x} {y} (a, p, t) (b, q, u) = (a ++ b, (a, b, refl, p, q), takes_then old mid new a b t u)

module _ {X : Type 0} (P : List ℕ → X → Type 0) where
  pub some_read : {old new : Reader} {x : X} → HasRead P x old new → HasRead (SomeOf P) tt old new
  some_read {old} {new} {x} (a, p, t) = (a, (x, p), t)

  pub some_refused : (F : Message → Reader → ℕ → Type 0) {e : Error} {old : Reader} → Fails P F e old → Fails (SomeOf P) F e old
  some_refused F = fails_as P (SomeOf P) F F (λ text z b. b) (λ f. f)

  pub some_code : PrefixCode P → PrefixCode (SomeOf P)
  some_code code a b x y m n p q e = ((code a b x y p.0 q.0 p.1 q.1 e).0, refl)
