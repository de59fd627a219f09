-- WebAssembly Core Specification 3.0: Validation, Types; Validation, Modules.
use Rattle.std.specs.Prelude.{◌≡◌, ℕ, List, [], ◌∷◌, length, Some}
use Rattle.wasm_below.specs.Reference.{Reference}
use Rattle.wasm_externals.specs.declared.global_type.GlobalType.{GlobalType}
use Rattle.wasm_externals.specs.declared.table_type.TableType.{TableType}
use Rattle.wasm_externals.specs.declared.tag_type.TagType.{TagType}
use Rattle.wasm_typing.specs.Types.{FunctionType}
use Rattle.wasm_subtypes.specs.Composites.{HeapWithin, ValueWithin}
use Rattle.wasm_subtypes.specs.declared.defined.Defined.{Defined}
use Rattle.wasm_context.specs.declared.function.Function.{Function}
use Rattle.wasm_context.specs.Components.{Components}
use Rattle.wasm_context.specs.Environment.{function_at}

abbrev pub Each : {A : Type 0} → (A → Type 0) → List A → Type 0
Each P [] = Unit {0}
Each P (a ∷ as_) = P a × Each P as_

-- The type index has a function type.
abbrev pub IsFunction : List Defined → ℕ → Type 0
IsFunction types x = (t : FunctionType) × (function_at types x ≡ Some t)

-- The type index has a function type without results.
abbrev pub IsTag : List Defined → ℕ → Type 0
IsTag types x = (t : FunctionType) × (function_at types x ≡ Some t) × (t.leaves ≡ [])

-- Functions and tags have function types. The type indices in the types of tables,
-- globals and element segments have types.
pub record IsWellFormed (c : Components) : Type 0 where
  pub functions : Each (λ (f : Function). IsFunction c.types f.type_index) c.functions
  pub tables : Each (λ (t : TableType). HeapWithin (length c.types) t.element_type.heap_type) c.tables
  pub globals : Each (λ (t : GlobalType). ValueWithin (length c.types) t.content_type) c.globals
  pub tags : Each (λ (t : TagType). IsTag c.types t.func_type_idx) c.tags
  pub elements : Each (λ (t : Reference). HeapWithin (length c.types) t.heap_type) c.elements
