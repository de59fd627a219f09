-- Items added one by one.
use Rattle.std.proofs.Common.{◌≡◌, ℕ, zero, suc, ◌+◌, false, Result, Ok, Err, IfOk, IfErr, inl, inr, refl, sym, subst, ◌∙◌, add-one, arith}
use Rattle.wasm_below.specs.declared.error.Error.{Error}
use Rattle.wasm_below.specs.declared.features.WasmFeatures.{WasmFeatures}
use Rattle.wasm_below.specs.Source.{Reader, offset_of}
use Rattle.wasm_grammars.specs.Grammar.{Grammar, HasReadBy}
use Rattle.wasm_sections.specs.Items.{IsDone, StopsItems}
use Rattle.wasm_context.specs.Components.{Components}
use Rattle.wasm_module_context.specs.declared.error.PayloadError.{PayloadError}
use Rattle.wasm_module_context.specs.declared.error.PayloadError.TheVariants as error
use Rattle.wasm_module_context.specs.Items.{Adding, Refusing, AddsItems, FailsItems}
use Rattle.wasm_module_context.specs.Payloads.{AddsPayload, FailsPayload, ReadsPayload}
use Rattle.wasm_payloads.specs.declared.payload.Payload.{Payload}

module _ {X : Type 0} (adds : Adding X) (refuses : Refusing X) (g : WasmFeatures → Grammar X) where
  pub adds_more : (n m : ℕ) (r s : Reader) (c k d : Components) (x : X) → n ≡ m + 1 → HasReadBy (g r.features) x r s → adds x c k → AddsItems adds g m s k d → AddsItems adds g n r c d
  adds_more n m r s c k d x e read add more = subst (λ i. AddsItems adds g i r c d) (sym (e ∙ add-one m)) (x, s, k, read, add, more)

  pub fails_later : (n m : ℕ) (r s : Reader) (c k : Components) (x : X) (f : PayloadError) → n ≡ m + 1 → HasReadBy (g r.features) x r s → adds x c k → FailsItems adds refuses g m s k f → FailsItems adds refuses g n r c f
  fails_later n m r s c k x f e read add more = subst (λ i. FailsItems adds refuses g i r c f) (sym (e ∙ add-one m)) (inr (x, s, read, inr (k, add, more)))

  pub fails_here : (n m : ℕ) (r s : Reader) (c : Components) (x : X) (at : ℕ) (f : PayloadError) → n ≡ m + 1 → HasReadBy (g r.features) x r s → at ≡ offset_of r → refuses x c at f → FailsItems adds refuses g n r c f
  fails_here n m r s c x at f e read same h =
      subst (λ i. FailsItems adds refuses g i r c f) (sym (e ∙ add-one m)) (inr (x, s, read, inl (subst (λ o. refuses x c o f) same h)))

  pub fails_read : (n : ℕ) (r : Reader) (c : Components) (e : Error) → StopsItems (g r.features) e (record { remaining = n; reader = r; refused = false }) → FailsItems adds refuses g n r c (error.Decode e)
  fails_read zero r c e (inl p) = absurd (omega (arith, p.0))
  fails_read zero r c e (inr q) = (q.1, q.2, q.3)
  fails_read (suc n) r c e (inl p) = inl p.1
  fails_read (suc n) r c e (inr q) = absurd (omega (arith, q.0))

  pub adds_end : (n : ℕ) (r : Reader) (c : Components) → IsDone (record { remaining = n; reader = r; refused = false }) → AddsItems adds g n r c c
  adds_end n r c (inl p) = absurd (cc p)
  adds_end n r c (inr q) = subst (λ i. AddsItems adds g i r c c) (sym q.0) (q.1, refl)

-- What a call says of both results.
pub reads_payload : (p : Payload) (c : Components) (r : Result Components PayloadError) → IfOk r (λ d. AddsPayload p c d) → IfErr r (λ e. FailsPayload p c e) → ReadsPayload p c r
reads_payload p c (Ok d) added refused = added
reads_payload p c (Err e) added refused = refused

-- What follows from what a call says of its result.
pub ok_also : {A E : Type 0} (P Q : A → Type 0) (r : Result A E) → ((a : A) → P a → Q a) → IfOk r P → IfOk r Q
ok_also P Q (Ok a) f p = f a p
ok_also P Q (Err e) f p = tt

pub err_also : {A E : Type 0} (P Q : E → Type 0) (r : Result A E) → ((e : E) → P e → Q e) → IfErr r P → IfErr r Q
err_also P Q (Ok a) f p = tt
err_also P Q (Err e) f p = f e p
