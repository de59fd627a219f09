-- Constant expressions that are shown. Specification: Validation, Constant Expressions.
use Rattle.std.specs.Prelude.{◌≡◌, ◌⊎◌, ℕ, List, Option, Result, Ok, Err}
use Rattle.wasm_below.specs.declared.features.WasmFeatures.{WasmFeatures}
use Rattle.wasm_grammars.specs.Grammar.{Grammar}
use Rattle.wasm_details.specs.declared.constants.Usage.{Usage}
use Rattle.wasm_rows.specs.declared.fault.Fault.{Fault}
use Rattle.wasm_rows.specs.declared.fault.Fault.TheVariants as fault
use Rattle.wasm_index_names.specs.Known.{ModuleNames}

-- The text of an expression with this usage, and its number if it is one.
abbrev pub Shows : Type 0 → Type 1
Shows X = ModuleNames → Usage → X → List ℕ → Option ℕ → Type 0

-- How constant expressions are read and shown.
pub record Constants (X : Type 0) : Type 1 where
  pub grammar : WasmFeatures → Grammar X
  pub shows : Shows X

-- What is written depends on the text and the number of an expression. If allocation fails before
-- they are known, nothing is written.
abbrev pub ListsShown : {X : Type 0} → (List ℕ → Option ℕ → Type 0) → (List ℕ → Option ℕ → Result X Fault → Option (List ℕ) → Option (List ℕ) → Type 0) →
    Result X Fault → Option (List ℕ) → Option (List ℕ) → Type 0
ListsShown IsShown Lists (Ok x) old new = (text : List ℕ) × (number : Option ℕ) × IsShown text number × Lists text number (Ok x) old new
ListsShown IsShown Lists (Err f) old new =
    ((f ≡ fault.Memory) × (new ≡ old)) ⊎ ((text : List ℕ) × (number : Option ℕ) × IsShown text number × Lists text number (Err f) old new)
