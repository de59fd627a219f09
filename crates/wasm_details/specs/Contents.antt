-- The contents of sections, in the form of wabt's `wasm-objdump -x`. Specification: Binary Format,
-- Modules, Sections.
use Rattle.std.specs.Prelude.{◌≡◌, ◌==◌, ◌⊎◌, ◌<◌, ℕ, List, Bool, true, false, length, nat_eq, Option, Result, Ok, Err, codes, if◌then◌else◌}
use Rattle.std.specs.Cmp.Lexicographic.{pointwise}
use Rattle.wasm_below.specs.declared.error.Error.{Error}
use Rattle.wasm_below.specs.declared.malformed.Malformed.TheVariants as malformed
use Rattle.wasm_below.specs.declared.message.Message.{Message}
use Rattle.wasm_below.specs.declared.message.Message.TheVariants as message
use Rattle.wasm_below.specs.Source.{Reader, rest, offset_of}
use Rattle.wasm_grammars.specs.Blocks.{sized_contents}
use Rattle.wasm_grammars.specs.Grammar.{HasReadBy}
use Rattle.wasm_grammars.specs.Parts.{u32}
use Rattle.wasm_grammars.specs.Reading.{Fails}
use Rattle.wasm_sections.specs.Items.{ReadsAll}
use Rattle.wasm_externals.specs.Externals.{import, export}
use Rattle.wasm_externals.specs.Globals.{tag_type}
use Rattle.wasm_externals.specs.Limits.{memory_type}
use Rattle.wasm_externals.specs.Texts.{text}
use Rattle.wasm_segments.specs.Globals.{global, table}
use Rattle.wasm_types.specs.Types.{rec_group}
use Rattle.wasm_rows.specs.declared.fault.Fault.{Fault}
use Rattle.wasm_rows.specs.declared.fault.Fault.TheVariants as fault
use Rattle.wasm_details.specs.declared.place.Imported.{Imported}
use Rattle.wasm_details.specs.declared.place.Place.{Place}
use Rattle.wasm_details.specs.Places.{after_one}
use Rattle.wasm_index_names.specs.Known.{ModuleNames}
use Rattle.wasm_details.specs.Constants.{Constants}
use Rattle.wasm_details.specs.Items.{ListsSection}
use Rattle.wasm_details.specs.Segments.{ListsTable, ListsGlobal, ListsElements, ListsData}
use Rattle.wasm_details.specs.Writing.{WritesLine}
use Rattle.wasm_rows.specs.Writing.{WritesThen}
use Rattle.wasm_details.specs.Types.{group_lines, after_group}
use Rattle.wasm_details.specs.Externals.{function_line, memory_line, tag_line, import_line, after_import, export_line}
use Rattle.wasm_details.specs.Bodies.{body_line, start_text, data_count_text}
use Rattle.wasm_details.specs.Namings.{custom_text}
use Rattle.wasm_details.specs.Names.{ListsNames}

-- The index of the first thing that a section with this id defines: imported things come first.
abbrev pub first_index : ℕ → Imported → ℕ
first_index id i =
    if id == 3 then i.functions else (if id == 4 then i.tables else (if id == 5 then i.memories else (if id == 6 then i.globals else
    (if id == 10 then i.functions else (if id == 13 then i.tags else 0)))))

-- The place of the first item of a section with this id.
abbrev pub first_place : ℕ → Imported → Place
first_place id i = record { next = first_index id i; address = 0; imported = i }

-- A section that is a number, whose text is appended.
abbrev pub ListsNumber : (ℕ → List ℕ) → Message → Reader → Place → Result Place Fault → Option (List ℕ) → Option (List ℕ) → Type 0
ListsNumber shown m contents first (Ok next) old new = (n : ℕ) × ReadsAll u32 m (Ok n) contents × WritesLine (shown n) first (Ok next) old new
ListsNumber shown m contents first (Err f) old new =
    ((e : Error) × (f ≡ fault.Section e) × ReadsAll u32 m (Err e) contents × (new ≡ old)) ⊎
    ((n : ℕ) × ReadsAll u32 m (Ok n) contents × WritesLine (shown n) first (Err f) old new)

-- The title of a section that is not known.
abbrev pub unknown_text : List ℕ
unknown_text = codes "Unknown:\n"

-- The section is the one with names of things.
abbrev pub is_name : List ℕ → Bool
is_name name = pointwise nat_eq name (codes "name")

-- The data of a custom section, which is shown if it has the name `name`.
abbrev pub ListsCustomData : Bool → Reader → Place → Result Place Fault → Option (List ℕ) → Option (List ℕ) → Type 0
ListsCustomData true contents first result old new = ListsNames first contents result old new
ListsCustomData false contents first (Ok next) old new = (next ≡ first) × (new ≡ old)
ListsCustomData false contents first (Err f) old new = ⊥

-- The name of a custom section, and its data.
abbrev pub ListsNamed : List ℕ → Reader → Place → Result Place Fault → Option (List ℕ) → Option (List ℕ) → Type 0
ListsNamed name contents first result old new = WritesThen (custom_text name) (ListsCustomData (is_name name) contents first) result old new

-- A custom section, whose name may be in error.
abbrev pub ListsCustom : Reader → Place → Result Place Fault → Option (List ℕ) → Option (List ℕ) → Type 0
ListsCustom contents first (Ok next) old new =
    (name : List ℕ) × (after : Reader) × HasReadBy text name contents after × ListsNamed name after first (Ok next) old new
ListsCustom contents first (Err f) old new =
    ((e : Error) × (f ≡ fault.Section e) × Fails text (offset_of contents) e contents × (new ≡ old)) ⊎
    ((name : List ℕ) × (after : Reader) × HasReadBy text name contents after × ListsNamed name after first (Err f) old new)

-- What is written for a section with this id and these contents, whose first item is at the place
-- `first`.
pub data ListsContents {X : Type 0} (k : Constants X) (names : ModuleNames) (id : ℕ) (contents : Reader) (first : Place) (result : Result Place Fault)
    (old new : Option (List ℕ)) : Type 0 where
  is_custom : id ≡ 0 → ListsCustom contents first result old new → ListsContents k names id contents first result old new
  is_types : id ≡ 1 → ListsSection (λ features. rec_group) (λ p group. WritesLine (group_lines p group) (after_group p group)) (codes "Type") contents first result
      old new → ListsContents k names id contents first result old new
  is_imports : id ≡ 2 → ListsSection import (λ p i. WritesLine (import_line names p.imported i) (after_import p i)) (codes "Import") contents first result old new →
      ListsContents k names id contents first result old new
  is_functions : id ≡ 3 → ListsSection (λ features. u32) (λ p ty. WritesLine (function_line names p.next ty) (after_one p)) (codes "Function") contents first result
      old new → ListsContents k names id contents first result old new
  is_tables : id ≡ 4 → ListsSection (λ features. table features (k.grammar features)) (ListsTable k.shows names) (codes "Table") contents first result old new →
      ListsContents k names id contents first result old new
  is_memories : id ≡ 5 → ListsSection memory_type (λ p ty. WritesLine (memory_line p.next ty) (after_one p)) (codes "Memory") contents first result old new →
      ListsContents k names id contents first result old new
  is_globals : id ≡ 6 → ListsSection (λ features. global features (k.grammar features)) (ListsGlobal k.shows names) (codes "Global") contents first result old new →
      ListsContents k names id contents first result old new
  is_exports : id ≡ 7 → ListsSection (λ features. export) (λ p e. WritesLine (export_line names e) (after_one p)) (codes "Export") contents first result old new →
      ListsContents k names id contents first result old new
  is_start : id ≡ 8 → ListsNumber (start_text names) (message.Malformed malformed.StartContent) contents first result old new →
      ListsContents k names id contents first result old new
  is_elements : id ≡ 9 → ListsElements k names contents first result old new →
      ListsContents k names id contents first result old new
  is_code : id ≡ 10 → ListsSection sized_contents (λ p body. WritesLine (body_line names p.next (length (rest body))) (after_one p)) (codes "Code") contents first
      result old new → ListsContents k names id contents first result old new
  is_data : id ≡ 11 → ListsData k names contents first result old new →
      ListsContents k names id contents first result old new
  is_data_count : id ≡ 12 → ListsNumber data_count_text (message.Malformed malformed.DataCountContent) contents first result old new →
      ListsContents k names id contents first result old new
  is_tags : id ≡ 13 → ListsSection (λ features. tag_type) (λ p ty. WritesLine (tag_line p.next ty) (after_one p)) (codes "Tag") contents first result old new →
      ListsContents k names id contents first result old new
  is_unknown : 13 < id → WritesLine unknown_text first result old new → ListsContents k names id contents first result old new
