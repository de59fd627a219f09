-- Element segments whose elements are a list. Specification: Binary Format, Element Section.
use Rattle.std.specs.Prelude.{ℕ, leb}
use Rattle.wasm_below.specs.declared.malformed.Malformed.TheVariants as malformed
use Rattle.wasm_below.specs.declared.message.Message.TheVariants as message
use Rattle.wasm_grammars.specs.Grammar.{Grammar, done, choose, thing}
use Rattle.wasm_grammars.specs.Parts.{◌>>=◌, u32, u32_where}
use Rattle.wasm_sections.specs.Items.{items}
use Rattle.wasm_segments.specs.Elements.{element_kind, kind_if, type_if}
use Rattle.wasm_segments.specs.Flags.{has_flag}
use Rattle.wasm_encode_sections.specs.declared.elements.ListedElement.{ListedElement}
use Rattle.wasm_encode_sections.specs.declared.elements.ListedItems.{ListedItems}
use Rattle.wasm_encode_sections.specs.declared.elements.ListedItems.TheVariants as list

abbrev pub listed_functions : {C : Type 0} → ℕ → Grammar (ListedItems C)
listed_functions flags = do
  kind ← thing (kind_if flags)
  indices ← items u32
  done (list.Functions indices)

abbrev pub listed_expressions : {C : Type 0} → Grammar C → ℕ → Grammar (ListedItems C)
listed_expressions constant flags = do
  ty ← thing (type_if flags)
  values ← items constant
  done (list.Expressions ty values)

abbrev pub listed_items : {C : Type 0} → Grammar C → ℕ → Grammar (ListedItems C)
listed_items constant flags = choose (has_flag flags 4) (listed_expressions constant flags) (listed_functions flags)

abbrev pub listed_flags : Grammar ℕ
listed_flags = u32_where (λ n. leb n 7) (message.Malformed malformed.ElementFlags)

-- The forms of `element` of wasm_segments. The value has the elements, and no offset. `listed_elements`
-- says that both have the same encodings.
abbrev pub listed_element : {C : Type 0} → Grammar C → Grammar (ListedElement C)
listed_element constant = do
  flags ← thing listed_flags
  kind ← thing (element_kind constant flags)
  found ← thing (listed_items constant flags)
  done (record { kind = kind; items = found })
