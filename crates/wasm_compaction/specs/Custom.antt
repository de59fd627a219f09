-- Custom sections and the code section.
-- Specification: Binary Format, Modules, Custom Section; Appendix, Custom Sections. Conventions of tools.
use Rattle.std.specs.Prelude.{ℕ, List, Bool, ◌||◌, String, string_bytes, codes, nat_eq, if◌then◌else◌}
use Rattle.std.specs.List.{list_any, starts_with}
use Rattle.std.specs.Cmp.Lexicographic.{pointwise}
use Rattle.wasm_compaction.specs.declared.custom.CustomKind.{CustomKind}
use Rattle.wasm_compaction.specs.declared.custom.CustomKind.TheVariants as custom

abbrev pub is_name : List ℕ → List ℕ → Bool
is_name name text = pointwise nat_eq name text

abbrev pub has_prefix : List ℕ → List ℕ → Bool
has_prefix name text = starts_with nat_eq name text

-- The section does not depend on the code section's bytes.
abbrev pub is_independent : List ℕ → Bool
is_independent name =
    is_name name (codes "name") || (is_name name (codes "producers") || (is_name name (codes "target_features") || (is_name name (codes "dylink.0") || is_name name (codes "go.buildid"))))

-- The section holds offsets into the code section, or identifies the module with these.
abbrev pub holds_offsets : List ℕ → Bool
holds_offsets name =
    has_prefix name (codes ".debug_") || (is_name name (codes "sourceMappingURL") || (is_name name (codes "external_debug_info") || (is_name name (codes "build_id") || has_prefix name (codes "metadata.code."))))

-- The section is of an object file.
abbrev pub holds_relocations : List ℕ → Bool
holds_relocations name = has_prefix name (codes "reloc.") || is_name name (codes "linking")

-- The kind of the custom sections with this name.
abbrev pub custom_kind : List ℕ → CustomKind
custom_kind name =
    if is_independent name then custom.Independent else (
    if holds_offsets name then custom.Offsets else (
    if holds_relocations name then custom.Relocations else custom.Other))

-- The name is in the list.
abbrev pub is_listed : {Z : Type 0} → List (String Z) → List ℕ → Bool
is_listed listed name = list_any (λ one. is_name name (string_bytes one)) listed
