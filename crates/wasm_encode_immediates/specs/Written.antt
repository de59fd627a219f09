-- What a writer of immediates does to the vector.
use Rattle.std.specs.Prelude.{◌≡◌, ◌≢◌, ◌≤◌, ℕ, List, ◌++◌, Result, Ok, Err, Vec, vec_capacity}
use Rattle.wasm_below.specs.declared.features.WasmFeatures.{WasmFeatures}
use Rattle.wasm_imm.specs.Immediate.{Immediate, EncodesImmediates}
use Rattle.wasm_encode_numbers.specs.Appended.{Appends}
use Rattle.wasm_encode_immediates.specs.declared.unwritable.Unwritable.{Unwritable}
use Rattle.wasm_encode_immediates.specs.declared.unwritable.Unwritable.TheVariants as why
use Rattle.wasm_encode_immediates.specs.Reasons.{HaveReason}

-- Writing fails for this reason. Unless it is `OutOfMemory`, no bytes encode the value. A part of
-- the value may have been appended.
pub record FailsToWrite {X : Type 0} (Encodes : List ℕ → X → Type 0) (Why : X → Unwritable → Type 0) (x : X) (e : Unwritable) (old new : List ℕ) : Type 0 where
  pub part : List ℕ
  pub appended : new ≡ old ++ part
  pub none : e ≢ why.OutOfMemory → (text : List ℕ) → Encodes text x → ⊥
  pub reason : Why x e

-- On `Ok`, the shortest encoding was appended. On `Err`, writing failed.
abbrev pub WritesText : {X Y : Type 0} → (List ℕ → X → Type 0) → (X → Unwritable → Type 0) → X → Result Y Unwritable → List ℕ → List ℕ → Type 0
WritesText Encodes Why x (Ok _) old new = Appends Encodes x old new
WritesText Encodes Why x (Err e) old new = FailsToWrite Encodes Why x e old new

-- On `Ok`, the shortest encoding was appended to the vector. On `Err`, writing failed for a reason. The
-- capacity has not shrunk.
abbrev pub WritesValue : {X Y Z : Type 0} → (List ℕ → X → Type 0) → (X → Unwritable → Type 0) → X → Result Y Unwritable → Vec ℕ Z → Vec ℕ Z → Type 0
WritesValue Encodes Why x result old new = WritesText Encodes Why x result old.items new.items × (vec_capacity old ≤ vec_capacity new)

-- As `WritesValue`, for immediates.
abbrev pub WritesImmediates : {Y Z : Type 0} → WasmFeatures → List Immediate → Result Y Unwritable → Vec ℕ Z → Vec ℕ Z → Type 0
WritesImmediates f = WritesValue (EncodesImmediates f) (HaveReason f)
