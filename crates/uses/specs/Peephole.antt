-- Joining `local.set x` and `local.get x` to `local.tee x`.
use Rattle.std.specs.Prelude.{◌≡◌, ◌≢◌, ℕ, List, [], ◌∷◌, Result, Ok, Err}
use Rattle.wasm_operators.specs.below.declared.features.WasmFeatures.{WasmFeatures}
use Rattle.wasm_operators.specs.instr.declared.operator.Operator.{Operator}
use Rattle.wasm_operators.specs.instr.declared.operator.Operator.TheVariants as operator
use Rattle.wasm_encode.specs.immediate_specs.declared.unwritable.Unwritable.{Unwritable}
use Rattle.wasm_encode.specs.immediate_specs.declared.unwritable.Unwritable.TheVariants as why
use Rattle.wasm_encode.specs.Writing.{AppendsOperators, HasUnwritable}

-- `local.set x` and `local.get x` are first in the list, before the rest.
abbrev pub AreSetAndGet : ℕ → List Operator → List Operator → Type 0
AreSetAndGet x ops rest = ops ≡ operator.LocalSet x ∷ operator.LocalGet x ∷ rest

abbrev pub StartWithPair : List Operator → Type 0
StartWithPair ops = (x : ℕ) × (rest : List Operator) × AreSetAndGet x ops rest

-- The second list is the first, with `local.tee x` in place of each `local.set x` and the `local.get x`
-- after it.
pub data AreTeed : List Operator → List Operator → Type 0 where
  none : AreTeed [] []
  kept : (op : Operator) (ops teed : List Operator) → (¬ StartWithPair (op ∷ ops)) → AreTeed ops teed → AreTeed (op ∷ ops) (op ∷ teed)
  joined : (x : ℕ) (ops teed : List Operator) → AreTeed ops teed → AreTeed (operator.LocalSet x ∷ operator.LocalGet x ∷ ops) (operator.LocalTee x ∷ teed)

-- As `WritesOperators`, for operators that `AreTeed` gives.
abbrev pub WritesTeed : {Y : Type 0} → WasmFeatures → List Operator → Result Y Unwritable → List ℕ → List ℕ → Type 0
WritesTeed f ops (Ok _) old new = (teed : List Operator) × AreTeed ops teed × AppendsOperators f teed old new
WritesTeed f ops (Err e) old new = (new ≡ old) × (e ≢ why.OutOfMemory → (teed : List Operator) × AreTeed ops teed × HasUnwritable f teed e)
