-- The items of a section, one after the other.
use Rattle.std.specs.Prelude.{◌≡◌, ◌≢◌, ℕ, zero, suc, [], ◌⊎◌}
use Rattle.wasm_below.specs.declared.features.WasmFeatures.{WasmFeatures}
use Rattle.wasm_below.specs.declared.message.Message.TheVariants as message
use Rattle.wasm_below.specs.Source.{Reader, rest, offset_of}
use Rattle.wasm_grammars.specs.Grammar.{Grammar, HasReadBy}
use Rattle.wasm_grammars.specs.Reading.{Fails}
use Rattle.wasm_context.specs.Components.{Components}
use Rattle.wasm_module_context.specs.declared.error.PayloadError.{PayloadError}
use Rattle.wasm_module_context.specs.declared.error.PayloadError.TheVariants as error

-- What an item adds, and with which error it can't be added at an offset.
abbrev pub Adding : Type 0 → Type 1
Adding X = X → Components → Components → Type 0

abbrev pub Refusing : Type 0 → Type 1
Refusing X = X → Components → ℕ → PayloadError → Type 0

-- The rest is this many items, and each is added to the components that the items before it gave.
abbrev pub AddsItems : {X : Type 0} → Adding X → (WasmFeatures → Grammar X) → ℕ → Reader → Components → Components → Type 0
AddsItems adds g zero r c d = (rest r ≡ []) × (d ≡ c)
AddsItems {X} adds g (suc n) r c d =
    (x : X) × (mid : Reader) × (m : Components) × HasReadBy (g r.features) x r mid × adds x c m × AddsItems adds g n mid m d

-- Reading an item returns this error.
abbrev pub FailsRead : {X : Type 0} → Grammar X → Reader → PayloadError → Type 0
FailsRead g r (error.Decode e) = Fails g (offset_of r) e r
FailsRead g r _ = ⊥

-- Data is left after all items.
abbrev pub HasDataLeft : Reader → PayloadError → Type 0
HasDataLeft r (error.Decode e) = (rest r ≢ []) × (e.message ≡ message.DataAfterSection) × (e.offset ≡ offset_of r)
HasDataLeft r _ = ⊥

-- The error of the first item that can't be read or added.
abbrev pub FailsItems : {X : Type 0} → Adding X → Refusing X → (WasmFeatures → Grammar X) → ℕ → Reader → Components → PayloadError → Type 0
FailsItems adds refuses g zero r c e = HasDataLeft r e
FailsItems {X} adds refuses g (suc n) r c e = FailsRead (g r.features) r e ⊎ ((x : X) × (mid : Reader) × HasReadBy (g r.features) x r mid ×
    (refuses x c (offset_of r) e ⊎ ((m : Components) × adds x c m × FailsItems adds refuses g n mid m e)))
