-- Why element segments have no encoding. `Why` says it of a constant expression.
use Rattle.std.specs.Prelude.{◌≡◌, ◌≢◌, ℕ, ◌⊎◌, ◌%◌}
use Rattle.wasm_below.specs.declared.malformed.Malformed.TheVariants as malformed
use Rattle.wasm_below.specs.declared.message.Message.{Message}
use Rattle.wasm_below.specs.declared.message.Message.TheVariants as message
use Rattle.wasm_below.specs.Reference.{Reference}
use Rattle.wasm_segments.specs.declared.element.ElementKind.{ElementKind}
use Rattle.wasm_segments.specs.declared.element.ElementKind.TheVariants as kind
use Rattle.wasm_segments.specs.Elements.{funcref}
use Rattle.wasm_write_grammars.specs.Writing.{NoReason}
use Rattle.wasm_encode_sections.specs.declared.elements.ListedElement.{ListedElement}
use Rattle.wasm_encode_sections.specs.declared.elements.ListedItems.{ListedItems}
use Rattle.wasm_encode_sections.specs.declared.elements.ListedItems.TheVariants as list
use Rattle.wasm_encode_sections.specs.ItemReasons.{ItemsReason}
use Rattle.wasm_encode_sections.specs.SegmentFlags.{element_flags}

abbrev pub OffsetReason : {C : Type 0} → (C → Message → Type 0) → ElementKind C → Message → Type 0
OffsetReason Why (kind.Active index offset) m = Why offset m
OffsetReason Why _ m = ⊥

-- The type is not written, as in an active segment without a table's index, and is not `funcref`.
abbrev pub TypeReason : ℕ → Reference → Message → Type 0
TypeReason flags ty m = (m ≡ message.Malformed malformed.ElementFlags) × (flags % 4 ≡ 0) × (ty ≢ funcref)

abbrev pub ListedReason : {C : Type 0} → (C → Message → Type 0) → ℕ → ListedItems C → Message → Type 0
ListedReason Why flags (list.Functions indices) m = ItemsReason NoReason indices m
ListedReason Why flags (list.Expressions ty values) m = TypeReason flags ty m ⊎ ItemsReason Why values m

-- The offset or the elements have a reason.
abbrev pub ElementReason : {C : Type 0} → (C → Message → Type 0) → ListedElement C → Message → Type 0
ElementReason Why e m = OffsetReason Why e.kind m ⊎ ListedReason Why (element_flags e) e.items m
