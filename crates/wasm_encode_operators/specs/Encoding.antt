-- What writing an operator does to the vector.
use Rattle.std.specs.Prelude.{◌≡◌, ◌≢◌, ℕ, ◌⊎◌, List, Result, Ok, Err}
use Rattle.wasm_below.specs.declared.features.WasmFeatures.{WasmFeatures}
use Rattle.wasm_below.specs.Features.{legacy_exceptions}
use Rattle.wasm_instr.specs.declared.operator.Operator.{Operator}
use Rattle.wasm_instr.specs.Encoding.{EncodesOperator, IsEnabled}
use Rattle.wasm_instr.specs.Row.{immediates_of}
use Rattle.wasm_encode_numbers.specs.Appended.{Appends}
use Rattle.wasm_encode_immediates.specs.declared.unwritable.Unwritable.{Unwritable}
use Rattle.wasm_encode_immediates.specs.declared.unwritable.Unwritable.TheVariants as why
use Rattle.wasm_encode_immediates.specs.Reasons.{HaveReason}

-- Why an operator has no encoding: its feature is off, or an immediate has no encoding.
abbrev pub HasOperatorReason : WasmFeatures → Operator → Unwritable → Type 0
HasOperatorReason f op e = ((e ≡ why.NeedsFeature legacy_exceptions) × ¬ IsEnabled f op) ⊎ HaveReason f (immediates_of op) e

-- No bytes encode the operator with these features, for this reason.
pub record IsUnwritable (f : WasmFeatures) (op : Operator) (e : Unwritable) : Type 0 where
  pub none : (text : List ℕ) → EncodesOperator f text op → ⊥
  pub reason : HasOperatorReason f op e

-- On `Ok`, the shortest encoding was appended. On `Err`, nothing was appended, and unless the
-- vector can't grow, no encoding exists.
abbrev pub WritesOperator : {Y : Type 0} → WasmFeatures → Operator → Result Y Unwritable → List ℕ → List ℕ → Type 0
WritesOperator f op (Ok _) old new = Appends (EncodesOperator f) op old new
WritesOperator f op (Err e) old new = (new ≡ old) × (e ≢ why.OutOfMemory → IsUnwritable f op e)
