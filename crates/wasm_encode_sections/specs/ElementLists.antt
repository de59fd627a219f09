-- Element segments as lists, and as wasm_segments reads them: with readers of their items.
use Rattle.std.specs.Prelude.{◌≡◌, ℕ, List, [], length}
use Rattle.wasm_below.specs.Source.{rest, offset_of}
use Rattle.wasm_grammars.specs.Grammar.{Grammar, thing, Encodes}
use Rattle.wasm_grammars.specs.Parts.{u32, more}
use Rattle.wasm_sections.specs.Items.{Counted}
use Rattle.wasm_segments.specs.declared.element.Element.{Element}
use Rattle.wasm_segments.specs.declared.element.ElementItems.{ElementItems}
use Rattle.wasm_segments.specs.declared.element.ElementItems.TheVariants as unread
use Rattle.wasm_encode_sections.specs.declared.elements.ListedElement.{ListedElement}
use Rattle.wasm_encode_sections.specs.declared.elements.ListedItems.{ListedItems}
use Rattle.wasm_encode_sections.specs.declared.elements.ListedItems.TheVariants as list

-- The bytes of the reader are these items.
abbrev pub HasItems : {X : Type 0} → Grammar X → Counted → List X → Type 0
HasItems g found xs = (found.count ≡ length xs) × Encodes (more (length xs) (thing g) []) (offset_of found.reader) (rest found.reader) xs

abbrev pub HasListed : {C : Type 0} → Grammar C → ElementItems C → ListedItems C → Type 0
HasListed g (unread.Functions found) (list.Functions indices) = HasItems u32 found indices
HasListed g (unread.Expressions ty found) (list.Expressions t values) = (ty ≡ t) × HasItems g found values
HasListed g _ _ = ⊥

-- The segment has this kind and these elements.
abbrev pub IsListed : {C : Type 0} → Grammar C → Element C → ListedElement C → Type 0
IsListed g e x = (e.kind ≡ x.kind) × HasListed g e.items x.items
