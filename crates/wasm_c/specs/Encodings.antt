-- Writing the operator of a C struct.
-- Specification: Binary Format, Instructions.
use Rattle.std.specs.Prelude.{◌≡◌, ℕ, ◌+◌, ◌^◌, ◌<◌, ◌≤◌, ◌⊎◌, List, [], length, Bool, true, false}
use Rattle.wasm_operators.specs.below.declared.features.WasmFeatures.{WasmFeatures}
use Rattle.wasm_operators.specs.below.Features.{features_of}
use Rattle.wasm_operators.specs.below.Source.{Reader}
use Rattle.wasm_operators.specs.instr.declared.operator.Operator.{Operator}
use Rattle.wasm_operators.specs.instr.Encoding.{EncodesOperator}
use Rattle.wasm_operators.specs.instr.Row.{immediates_of}
use Rattle.wasm_encode_numbers.specs.Appended.{Appends}
use Rattle.wasm_encode_immediates.specs.Reasons.{HoldList}
use Rattle.wasm_view.specs.View.{view_of}
use Rattle.wasm_view.specs.declared.view.WasmOperator.{WasmOperator}
use Rattle.wasm_c.specs.declared.refusal.WasmRefusal.{WasmRefusal}
use Rattle.wasm_c.specs.Members.{AtOffset, OccursThere, RefusesThere, Unchanged}
use Rattle.wasm_c.specs.OperatorTexts.{PlacesText, out_of_memory}
use Rattle.wasm_c.specs.Reads.{IsWithin}
use Rattle.wasm_c.specs.Refused.{misuse}

-- The C struct is the operator's.
abbrev pub IsViewOf : WasmOperator → Operator → Type 0
IsViewOf v op = v ≡ view_of (op, v.offset)

-- The bytes encode the operator, and no encoding is shorter.
abbrev pub IsShortest : WasmFeatures → List ℕ → Operator → Type 0
IsShortest f text op = Appends (EncodesOperator f) op [] text

-- No operator with this C struct has an encoding.
abbrev pub HasNoEncoding : WasmFeatures → WasmOperator → Type 0
HasNoEncoding f v = (op : Operator) (text : List ℕ) → IsViewOf v op → ¬ EncodesOperator f text op

-- The operators with this C struct have no list.
abbrev pub IsWithoutList : WasmOperator → Type 0
IsWithoutList v = (op : Operator) → IsViewOf v op → ¬ HoldList (immediates_of op)

-- The operators with this C struct have a list.
abbrev pub IsWithList : WasmOperator → Type 0
IsWithList v = (op : Operator) → IsViewOf v op → HoldList (immediates_of op)

-- The bytes are the shortest encoding of each operator with this C struct that has no list and can be encoded.
abbrev pub WritesBytes : WasmOperator → List ℕ → Type 0
WritesBytes v bytes =
    (f : WasmFeatures) (op : Operator) (at : ℕ) (text : List ℕ) → v ≡ view_of (op, at) → ¬ HoldList (immediates_of op) → EncodesOperator f text op →
    Appends (EncodesOperator f) op [] bytes

-- The bytes are the shortest encoding of an operator with this C struct, or no such operator has an encoding.
abbrev pub ReadsBack : Bool → WasmOperator → List ℕ → WasmFeatures → Type 0
ReadsBack true v bytes f = (op : Operator) × IsViewOf v op × IsShortest f bytes op
ReadsBack false v bytes f = HasNoEncoding f v

-- The encoding is placed. Without one, only the refusal changes.
abbrev pub WritesPlain : WasmRefusal → WasmOperator → WasmFeatures → ℕ → ℕ → List ℕ → List ℕ → Type 0
WritesPlain r v f count_old count_new old new =
    ((op : Operator) × (text : List ℕ) × IsViewOf v op × IsShortest f text op × PlacesText text v.offset r count_new old new)
    ⊎ ((r ≡ misuse 112 v.offset) × HasNoEncoding f v × Unchanged count_old count_new old new)

-- The operator is the one that is encoded here, and its encoding is placed. If another operator is encoded here, the error
-- is 104; if allocation fails, 3.
abbrev pub WritesFound : WasmRefusal → WasmOperator → Operator → WasmFeatures → ℕ → ℕ → List ℕ → List ℕ → Type 0
WritesFound r v op f count_old count_new old new =
    ((text : List ℕ) × IsViewOf v op × IsShortest f text op × PlacesText text v.offset r count_new old new)
    ⊎ ((((r ≡ misuse 104 v.offset) × ¬ IsViewOf v op) ⊎ (r ≡ out_of_memory v.offset)) × Unchanged count_old count_new old new)

-- As `WritesFound`, for the operator that is encoded here, or the error of reading one.
abbrev pub WritesThere : WasmRefusal → WasmOperator → Reader → ℕ → ℕ → List ℕ → List ℕ → Type 0
WritesThere r v input count_old count_new old new =
    ((op : Operator) × OccursThere input op × WritesFound r v op input.features count_old count_new old new) ⊎ (RefusesThere r input × Unchanged count_old count_new old new)

-- As `WritesThere`, at the operator's offset in these bytes.
abbrev pub WritesListed : WasmRefusal → WasmOperator → List ℕ → ℕ → ℕ → ℕ → ℕ → List ℕ → List ℕ → Type 0
WritesListed r v bytes offset features count_old count_new old new =
    AtOffset (λ number place. (r ≡ misuse number place) × Unchanged count_old count_new old new) (λ input. WritesThere r v input count_old count_new old new) bytes offset features v.offset

-- An operator without a list is written from its C struct, one with a list is the operator at its offset in the bytes.
pub record WritesView (r : WasmRefusal) (v : WasmOperator) (bytes : List ℕ) (offset features count_old count_new : ℕ) (old new : List ℕ) : Type 0 where
  pub unknown : 64 ≤ features → (r ≡ misuse 100 offset) × Unchanged count_old count_new old new
  pub past : features < 64 → 2 ^ 64 ≤ offset + length bytes → (r ≡ misuse 101 offset) × Unchanged count_old count_new old new
  pub known : features < 64 → IsWithin offset bytes →
      (IsWithoutList v × WritesPlain r v (features_of features) count_old count_new old new)
      ⊎ (IsWithList v × WritesListed r v bytes offset features count_old count_new old new)
