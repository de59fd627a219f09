-- The items of a list as C structs, one after another. Specification: Binary Format, Lists.
use Rattle.std.specs.Prelude.{◌≡◌, ℕ, ◌+◌, ◌-◌, ◌<◌, ◌≤◌, ◌⊎◌, false, List, [], length, take, drop, Result, Ok, Err}
use Rattle.wasm_below.specs.declared.error.Error.{Error}
use Rattle.wasm_below.specs.declared.features.WasmFeatures.{WasmFeatures}
use Rattle.wasm_below.specs.Features.{features_of}
use Rattle.wasm_below.specs.Source.{Reader, reader_of, rest, offset_of, end_of}
use Rattle.wasm_c.specs.declared.refusal.WasmRefusal.{WasmRefusal}
use Rattle.wasm_c.specs.Refused.{no_refusal, refusal_of, misuse}
use Rattle.wasm_c_sections.specs.declared.items.WasmItems.{WasmItems}
use Rattle.wasm_grammars.specs.Grammar.{Grammar, HasReadBy}
use Rattle.wasm_sections.specs.Items.{Counted, ItemsLeft, StopsItems}

-- The features are known, and the items are in these bytes.
pub record IsItems (bytes : List ℕ) (i : WasmItems) : Type 0 where
  pub features : i.features < 64
  pub within : i.offset + i.length ≤ length bytes

-- A reader of the items, of these bytes of a module.
abbrev pub items_reader : List ℕ → WasmItems → Reader
items_reader bytes i = reader_of (features_of i.features) i.offset (take i.length (drop i.offset bytes))

abbrev pub items_left : List ℕ → WasmItems → ItemsLeft
items_left bytes i = record { remaining = i.count; reader = items_reader bytes i; refused = false }

-- The items that are left at the reader.
abbrev pub items_at : Reader → ℕ → ℕ → WasmItems
items_at r count features = record { offset = offset_of r; length = length (rest r); count = count; features = features }

abbrev pub no_items : WasmItems
no_items = record { offset = 0; length = 0; count = 0; features = 0 }

-- The items of a list, of which their number was read.
abbrev pub items_of_section : Counted → ℕ → WasmItems
items_of_section s features = record { offset = offset_of s.reader; length = end_of s.reader - offset_of s.reader; count = s.count; features = features }

-- The next item is read, by its grammar.
abbrev pub TakesItem : {X : Type 0} → (WasmFeatures → Grammar X) → X → List ℕ → WasmItems → WasmItems → Type 0
TakesItem g x bytes old new = IsItems bytes old × (0 < old.count) × ((after : Reader) ×
    HasReadBy (g (features_of old.features)) x (items_reader bytes old) after × (new ≡ items_at after (old.count - 1) old.features))

-- Why no item is read: its error, or `DataAfterSection`; all items were read; or these are no items of the bytes.
abbrev pub StopsItem : {X : Type 0} → (WasmFeatures → Grammar X) → WasmRefusal → List ℕ → WasmItems → Type 0
StopsItem g r bytes i =
    (IsItems bytes i × ((e : Error) × (r ≡ refusal_of e) × StopsItems (g (features_of i.features)) e (items_left bytes i)))
    ⊎ ((IsItems bytes i × (i.count ≡ 0) × (rest (items_reader bytes i) ≡ []) × (r ≡ misuse 114 i.offset))
    ⊎ ((IsItems bytes i → ⊥) × (r ≡ misuse 103 i.offset)))

-- The next item and the items after it, or why no item is read.
abbrev pub ReadsItem : {X : Type 0} → (WasmFeatures → Grammar X) → Result (X × WasmItems) WasmRefusal → List ℕ → WasmItems → Type 0
ReadsItem g (Ok found) bytes i = TakesItem g found.0 bytes i found.1
ReadsItem g (Err r) bytes i = StopsItem g r bytes i

-- A call reads the next item; or it reads none, and nothing changes.
abbrev pub ReturnsItem : {X : Type 0} → (WasmFeatures → Grammar X) → WasmRefusal → List ℕ → WasmItems → WasmItems → X → X → Type 0
ReturnsItem g r bytes old new item_old item_new =
    ((r ≡ no_refusal new.offset) × TakesItem g item_new bytes old new) ⊎ ((new ≡ old) × (item_new ≡ item_old) × StopsItem g r bytes old)

-- A call reads the next item, and returns its C struct, which depends on its end and the features; or it reads none, and
-- nothing changes.
abbrev pub ReturnsView : {X V : Type 0} → (WasmFeatures → Grammar X) → (ℕ → ℕ → X → V) → WasmRefusal → List ℕ → WasmItems → WasmItems → V → V → Type 0
ReturnsView {X} g view_of r bytes old new view_old view_new =
    ((r ≡ no_refusal new.offset) × ((x : X) × TakesItem g x bytes old new × (view_new ≡ view_of new.offset new.features x)))
    ⊎ ((new ≡ old) × (view_new ≡ view_old) × StopsItem g r bytes old)
