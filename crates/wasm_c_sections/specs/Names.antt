-- Names as C structs. Specification: Custom Sections, Name Section.
use Rattle.std.specs.Prelude.{◌≡◌, ◌≢◌, ℕ, ◌⊎◌, List, [], Ok}
use Rattle.wasm_below.specs.declared.error.Error.{Error}
use Rattle.wasm_below.specs.Source.{Reader, rest}
use Rattle.wasm_c.specs.declared.refusal.WasmRefusal.{WasmRefusal}
use Rattle.wasm_c.specs.Refused.{no_refusal, refusal_of, misuse}
use Rattle.wasm_c_sections.specs.declared.items.WasmItems.{WasmItems}
use Rattle.wasm_c_sections.specs.declared.named.WasmNaming.{WasmNaming}
use Rattle.wasm_c_sections.specs.declared.names.WasmNames.{WasmNames}
use Rattle.wasm_c_sections.specs.declared.range.WasmRange.{WasmRange}
use Rattle.wasm_c_sections.specs.Items.{IsItems, items_reader, items_at, no_items, items_of_section}
use Rattle.wasm_c_sections.specs.Ranges.{ending_at, no_range, placed_text, range_of}
use Rattle.wasm_grammars.specs.Grammar.{Grammar, done, thing}
use Rattle.wasm_grammars.specs.Parts.{◌>>=◌, u32}
use Rattle.wasm_names.specs.declared.name.Name.{Name}
use Rattle.wasm_names.specs.declared.name.Name.TheVariants as name
use Rattle.wasm_names.specs.Subsections.{ReadsSubsection, FailsSubsection}
use Rattle.wasm_sections.specs.Items.{Counted}

-- nameassoc ::= idx:u32 n:name
abbrev pub placed_naming : Grammar WasmNaming
placed_naming = do
  index ← u32
  name ← thing placed_text
  done (record { name = name; index = index; reserved = 0 })

-- A map of names, of which their number was read.
abbrev pub map_of : ℕ → ℕ → Counted → WasmNames
map_of kind features map = record { range = no_range; items = items_of_section map features; kind = kind; reserved = 0 }

abbrev pub without_map : ℕ → WasmRange → WasmNames
without_map kind range = record { range = range; items = no_items; kind = kind; reserved = 0 }

-- The C struct of a subsection; its names are read with these features.
abbrev pub names_of : ℕ → Name → WasmNames
names_of features (name.Module n range) = without_map 0 (ending_at range.end n)
names_of features (name.Function map) = map_of 1 features map
names_of features (name.Local map) = map_of 2 features map
names_of features (name.Label map) = map_of 3 features map
names_of features (name.Type map) = map_of 4 features map
names_of features (name.Table map) = map_of 5 features map
names_of features (name.Memory map) = map_of 6 features map
names_of features (name.Global map) = map_of 7 features map
names_of features (name.Element map) = map_of 8 features map
names_of features (name.Data map) = map_of 9 features map
names_of features (name.Field map) = map_of 10 features map
names_of features (name.Tag map) = map_of 11 features map
names_of features (name.Unknown ty bytes range) = without_map ty (range_of range.start range.end)

-- The next subsection is read.
abbrev pub TakesNames : WasmNames → List ℕ → WasmItems → WasmItems → Type 0
TakesNames view bytes old new = IsItems bytes old × ((n : Name) × (after : Reader) × ReadsSubsection (Ok n) (items_reader bytes old) after ×
    (view ≡ names_of old.features n) × (new ≡ items_at after old.count old.features))

-- Why no subsection is read: its error; or all were read; or these are not in the bytes.
abbrev pub StopsNames : WasmRefusal → List ℕ → WasmItems → Type 0
StopsNames r bytes i =
    (IsItems bytes i × (rest (items_reader bytes i) ≢ []) × ((e : Error) × (r ≡ refusal_of e) × FailsSubsection e (items_reader bytes i)))
    ⊎ ((IsItems bytes i × (rest (items_reader bytes i) ≡ []) × (r ≡ misuse 114 i.offset))
    ⊎ ((IsItems bytes i → ⊥) × (r ≡ misuse 103 i.offset)))

-- `wasm_next_names` returns the next subsection; or none, and nothing changes.
abbrev pub ReturnsNames : WasmRefusal → List ℕ → WasmItems → WasmItems → WasmNames → WasmNames → Type 0
ReturnsNames r bytes old new view_old view_new =
    ((r ≡ no_refusal new.offset) × TakesNames view_new bytes old new) ⊎ ((new ≡ old) × (view_new ≡ view_old) × StopsNames r bytes old)
