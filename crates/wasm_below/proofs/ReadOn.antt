use Rattle.std.proofs.Common.{◌≡◌, ℕ, suc, ◌-◌, ◌+◌, ◌<◌, inl, inr, true, false, List, Result, Ok, Err, refl, sym, subst, ap, arith}
use Rattle.std.specs.Result.{is_err}
use Rattle.wasm_below.specs.declared.error.Error.{Error}
use Rattle.wasm_below.specs.declared.message.Message.{Message}
use Rattle.wasm_below.specs.Source.{Reader}
use Rattle.wasm_below.specs.FromReader.{ReadsValue, ReadsOn}

module _ {X : Type 0} (Encodes : List ℕ → X → Type 0) (Fault : Message → Reader → ℕ → Type 0) (Memory : Reader → Type 0) where
  pub kept_features : (result : Result X Error) (old new : Reader) → ReadsValue Encodes Fault Memory result old new → new.features ≡ old.features
  kept_features (Ok x) old new h = ap (λ (r : Reader). r.features) h.2.moved
  kept_features (Err e) old new h = ap (λ (r : Reader). r.features) h.0

  pub none_left_to_read : (n : ℕ) (r : Reader) → n ≡ 0 → ReadsOn Encodes Fault Memory n r r
  none_left_to_read n r e = subst (λ k. ReadsOn Encodes Fault Memory k r r) (sym e) refl

  pub one_read : (result : Result X Error) (n i : ℕ) (old mid last : Reader) → i < n → is_err result ≡ false →
      ReadsValue Encodes Fault Memory result old mid → ReadsOn Encodes Fault Memory (n - (i + 1)) mid last → ReadsOn Encodes Fault Memory (n - i) old last
  one_read (Ok x) n i old mid last lt is r h =
      let e : suc (n - (i + 1)) ≡ n - i = omega arith in
      subst (λ k. ReadsOn Encodes Fault Memory k old last) e (inl (x, mid, r, h))
  one_read (Err e) n i old mid last lt is r h = absurd (cc is)

  pub one_refused : (result : Result X Error) (n i : ℕ) (old new : Reader) → i < n → is_err result ≡ true →
      ReadsValue Encodes Fault Memory result old new → ReadsOn Encodes Fault Memory (n - i) old new
  one_refused (Ok x) n i old new lt is r = absurd (cc is)
  one_refused (Err e) n i old new lt is r =
      let s : suc (n - (i + 1)) ≡ n - i = omega arith in
      subst (λ k. ReadsOn Encodes Fault Memory k old new) s (inr (e, r.0, r.1))
