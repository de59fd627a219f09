use Rattle.std.proofs.Common.{◌≡◌, ℕ, List, Result, Ok, Err, inl, inr, refl, sym, subst}
use Rattle.std.specs.Prelude.{IsErrAnd}
use Rattle.wasm_below.specs.Ahead.{Fails, ReadsAhead}
use Rattle.wasm_below.specs.declared.error.Error.{Error}
use Rattle.wasm_below.specs.declared.message.Message.{Message}
use Rattle.wasm_below.specs.Fault.{ThenFault}
use Rattle.wasm_below.specs.Sequence.{Then, PrefixCode}
use Rattle.wasm_below.specs.Source.{Reader, HasRead, Reads}
use Rattle.wasm_below.proofs.Blocks.{refused_now}
use Rattle.wasm_below.proofs.Sequences.{then_first, then_second, refuses_by}

module _ {X Y : Type 0} (P : List ℕ → X → Type 0) (Q : X → List ℕ → Y → Type 0) (F : Message → Reader → ℕ → Type 0)
    (G : X → Message → Reader → ℕ → Type 0) where
  pub first_fails : {e : Error} {old : Reader} → Fails P F e old → Fails (Then P Q) (ThenFault P F G) e old
  first_fails {e} {old} (h, f) = (then_first P Q e old h, inl (refused_now P e old h, f))

  pub second_fails : PrefixCode P → {e : Error} {old mid : Reader} {x : X} → HasRead P x old mid → Fails (Q x) (G x) e mid →
      Fails (Then P Q) (ThenFault P F G) e old
  second_fails code {e} {old} {mid} {x} first (h, f) = (then_second P Q e old mid x code first h, inr (x, mid, first, f))

pub fails_as : {X Y : Type 0} (P : List ℕ → X → Type 0) (Q : List ℕ → Y → Type 0) (F G : Message → Reader → ℕ → Type 0) →
    ((text : List ℕ) (y : Y) → Q text y → (x : X) × P text x) → {e : Error} {old : Reader} → (F e.message old e.offset → G e.message old e.offset) →
    Fails P F e old → Fails Q G e old
fails_as P Q F G has {e} {old} faults (h, f) = (refuses_by P Q e old has h, faults f)

module _ {X : Type 0} (P : List ℕ → X → Type 0) (F : Message → Reader → ℕ → Type 0) where
  -- A `?` returns the error as it is.
  pub failed : (r : Result X Error) {e : Error} {old : Reader} (new : Reader) → IsErrAnd r (λ y. y ≡ e) → Fails P F e old → ReadsAhead P F r old new
  failed (Ok x) new is h = absurd is
  failed (Err y) {e} {old} new is h = subst (λ z. Fails P F z old) (sym is) h

  -- A copy reads ahead. If this fails, the reader stays.
  pub stays : (r : Result X Error) {e : Error} {copy old : Reader} → copy ≡ old → IsErrAnd r (λ y. y ≡ e) → Fails P F e copy → Reads P F r old old
  stays (Ok x) same is h = absurd is
  stays (Err y) {e} {copy} {old} same is h = let k = subst (λ z. Fails P F y z) same (subst (λ z. Fails P F z copy) (sym is) h) in (refl, k.0, k.1)

-- The reader goes where the copy is.
pub advances : {X : Type 0} (P : List ℕ → X → Type 0) {copy old new : Reader} {x : X} → copy ≡ old → HasRead P x copy new → HasRead P x old new
advances P {copy} {old} {new} {x} same h = subst (λ r. HasRead P x r new) same h
