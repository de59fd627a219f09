-- Items give one context, or an error. In each lemma on errors, allocation did not fail.
use Rattle.std.proofs.Common.{◌≡◌, ℕ, zero, suc, inl, inr, [], Option, Some, None, sym, subst, ◌∙◌}
use Rattle.wasm_below.specs.declared.features.WasmFeatures.{WasmFeatures}
use Rattle.wasm_below.specs.Source.{Reader, rest, offset_of}
use Rattle.wasm_grammars.specs.Grammar.{Grammar, HasReadBy}
use Rattle.wasm_sections.proofs.Framing.{one_read}
use Rattle.wasm_payloads.proofs.OnePayload.{read_or_fails}
use Rattle.wasm_context.specs.declared.error.ContextError.{ContextError}
use Rattle.wasm_context.specs.declared.error.ContextError.TheVariants as context_error
use Rattle.wasm_context.specs.Components.{Components}
use Rattle.wasm_module_context.specs.declared.error.PayloadError.{PayloadError}
use Rattle.wasm_module_context.specs.declared.error.PayloadError.TheVariants as error
use Rattle.wasm_module_context.specs.Exhaustion.{IsExhausted}
use Rattle.wasm_module_context.specs.Items.{Adding, Refusing, FailsRead, HasDataLeft, AddsItems, FailsItems}
use Rattle.wasm_module_context.specs.Parts.{Becomes, FailsAt}

-- An item adds one thing.
abbrev pub AddsOnce : {X : Type 0} → Adding X → Type 0
AddsOnce {X} adds = (x : X) (c d e : Components) → adds x c d → adds x c e → d ≡ e

-- What is added is no error.
abbrev pub AddsOrFails : {X : Type 0} → Adding X → Refusing X → Type 0
AddsOrFails {X} adds refuses = (x : X) (c d : Components) (at : ℕ) (e : PayloadError) → (IsExhausted e → ⊥) → adds x c d → refuses x c at e → ⊥

nothing_left : (r : Reader) (e : PayloadError) → rest r ≡ [] → HasDataLeft r e → ⊥
nothing_left r (error.Decode e) none (some, _, _) = some none
nothing_left r e none h = absurd h

item_read : {X : Type 0} (g : Grammar X) (r mid : Reader) (x : X) (e : PayloadError) → (IsExhausted e → ⊥) → HasReadBy g x r mid → FailsRead g r e → ⊥
item_read g r mid x (error.Decode e) known read f = read_or_fails g x e known read f
item_read g r mid x e known read f = absurd f

module _ {X : Type 0} (adds : Adding X) (g : WasmFeatures → Grammar X) (once : AddsOnce adds) where
  pub items_once : (n : ℕ) (r : Reader) (c d e : Components) → AddsItems adds g n r c d → AddsItems adds g n r c e → d ≡ e
  items_once zero r c d e (_, a) (_, b) = a ∙ sym b
  items_once (suc n) r c d e (x, mid, m, read, add, more) (y, end, k, read2, add2, more2) =
      let same = one_read (g r.features) read read2 in
      let next : m ≡ k = once x c m k add (subst (λ z. adds z c k) (sym same.1) add2) in
      items_once n mid m d e more (subst (λ z. AddsItems adds g n mid z e) (sym next) (subst (λ z. AddsItems adds g n z k e) (sym same.0) more2))

  pub items_or_error : (refuses : Refusing X) → AddsOrFails adds refuses → (n : ℕ) (r : Reader) (c d : Components) (e : PayloadError) → (IsExhausted e → ⊥) →
      AddsItems adds g n r c d → FailsItems adds refuses g n r c e → ⊥
  items_or_error refuses apart zero r c d e known (none, _) f = nothing_left r e none f
  items_or_error refuses apart (suc n) r c d e known (x, mid, m, read, add, more) (inl f) = item_read (g r.features) r mid x e known read f
  items_or_error refuses apart (suc n) r c d e known (x, mid, m, read, add, more) (inr (y, end, read2, inl f)) =
      apart x c m (offset_of r) e known add (subst (λ z. refuses z c (offset_of r) e) (sym (one_read (g r.features) read read2).1) f)
  items_or_error refuses apart (suc n) r c d e known (x, mid, m, read, add, more) (inr (y, end, read2, inr (k, add2, more2))) =
      let same = one_read (g r.features) read read2 in
      let next : m ≡ k = once x c m k add (subst (λ z. adds z c k) (sym same.1) add2) in
      items_or_error refuses apart n mid m d e known more
      (subst (λ z. FailsItems adds refuses g n mid z e) (sym next) (subst (λ z. FailsItems adds refuses g n z k e) (sym same.0) more2))

-- What is determined by a fault.
pub becomes_once : {fault : Option ContextError} {more d e : Components} → Becomes fault more d → Becomes fault more e → d ≡ e
becomes_once (_, a) (_, b) = a ∙ sym b

pub no_fault : (fault : Option ContextError) (e : ContextError) → fault ≡ None → fault ≡ Some e → ⊥
no_fault fault e none some = cc (none, some)

exhausted : (e : ContextError) (at : ℕ) → (IsExhausted (error.Context e at) → ⊥) → e ≡ context_error.OutOfMemory → ⊥
exhausted context_error.OutOfMemory at known is = known tt
exhausted e at known is = known (subst (λ z. IsExhausted (error.Context z at)) (sym is) tt)

pub fine_or_fails : (fault : Option ContextError) (at : ℕ) (e : PayloadError) → (IsExhausted e → ⊥) → fault ≡ None → FailsAt fault at e → ⊥
fine_or_fails fault at (error.Context e offset) known none (_, inl memory) = exhausted e offset known memory
fine_or_fails fault at (error.Context e offset) known none (_, inr some) = no_fault fault e none some
fine_or_fails fault at e known none f = absurd f
