-- Items that are returned as C structs. Specification: Binary Format, Lists.
use Rattle.std.specs.Prelude.{◌≡◌, ℕ, ◌⊎◌, List}
use Rattle.wasm_below.specs.declared.features.WasmFeatures.{WasmFeatures}
use Rattle.wasm_c.specs.declared.refusal.WasmRefusal.{WasmRefusal}
use Rattle.wasm_c.specs.Refused.{no_refusal}
use Rattle.wasm_c_sections.specs.declared.items.WasmItems.{WasmItems}
use Rattle.wasm_c_sections.specs.Items.{TakesItem, StopsItem}
use Rattle.wasm_grammars.specs.Grammar.{Grammar}

-- A call reads the next item, and returns its C struct, which may depend on the item's end and on the features; or it reads
-- none, and nothing changes.
abbrev pub ReturnsView : {X V : Type 0} → (WasmFeatures → Grammar X) → (ℕ → ℕ → X → V) → WasmRefusal → List ℕ → WasmItems → WasmItems → V → V → Type 0
ReturnsView {X} g view_of r bytes old new view_old view_new =
    ((r ≡ no_refusal new.offset) × ((x : X) × TakesItem g x bytes old new × (view_new ≡ view_of new.offset new.features x)))
    ⊎ ((new ≡ old) × (view_new ≡ view_old) × StopsItem g r bytes old)
