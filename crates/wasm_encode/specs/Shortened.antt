-- Writing operators with the targets of branch tables in their shortest encodings.
-- Specification: Binary Format, Control Instructions; Modules, Code Section.
use Rattle.std.specs.Prelude.{◌≡◌, ◌≢◌, ℕ, ◌≤◌, ◌^◌, ◌⊎◌, List, [], ◌∷◌, ◌++◌, length, Result, Ok, Err}
use Rattle.wasm_below.specs.declared.features.WasmFeatures.{WasmFeatures}
use Rattle.wasm_below.specs.Number.{EncodesUnsigned}
use Rattle.wasm_imm.specs.BranchTables.{BranchTable}
use Rattle.wasm_imm.specs.Lists.{EncodesMany}
use Rattle.wasm_instr.specs.declared.operator.Operator.{Operator}
use Rattle.wasm_instr.specs.declared.operator.Operator.TheVariants as operator
use Rattle.wasm_instr.specs.Encoding.{EncodesOperator}
use Rattle.wasm_operators.specs.Locals.{Declaration, EncodesLocals}
use Rattle.wasm_encode_numbers.specs.Appended.{Appends}
use Rattle.wasm_encode_immediates.specs.declared.unwritable.Unwritable.{Unwritable}
use Rattle.wasm_encode_immediates.specs.declared.unwritable.Unwritable.TheVariants as why
use Rattle.wasm_encode_operators.specs.Encoding.{IsUnwritable}
use Rattle.wasm_encode.specs.Writing.{EncodesOperators, HasUnwritable}

-- The targets and the default target are equal. The bytes of the targets may differ.
pub record HaveSameTargets (t u : BranchTable) : Type 0 where
  pub numbers : List ℕ
  pub targets : EncodesMany (EncodesUnsigned 32) t.count t.targets numbers
  pub others : EncodesMany (EncodesUnsigned 32) u.count u.targets numbers
  pub default : t.default ≡ u.default

-- The operators are equal, or they are branch tables with the same targets.
abbrev pub EqualByTargets : Operator → Operator → Type 0
EqualByTargets op other = (op ≡ other) ⊎ ((t u : BranchTable) × (op ≡ operator.BrTable t) × (other ≡ operator.BrTable u) × HaveSameTargets t u)

-- The bytes encode an operator that equals this by targets.
abbrev pub EncodesSame : WasmFeatures → List ℕ → Operator → Type 0
EncodesSame f text op = (other : Operator) × EqualByTargets op other × EncodesOperator f text other

-- On `Ok`, such an encoding was appended, and none is shorter. On `Err`, nothing was appended, and
-- unless the vector can't grow, no encoding exists.
abbrev pub WritesSame : {Y : Type 0} → WasmFeatures → Operator → Result Y Unwritable → List ℕ → List ℕ → Type 0
WritesSame f op (Ok _) old new = Appends (EncodesSame f) op old new
WritesSame f op (Err e) old new = (new ≡ old) × (e ≢ why.OutOfMemory → IsUnwritable f op e)

-- As many operators, and each equals the other at its place by targets.
abbrev pub AreEqualByTargets : List Operator → List Operator → Type 0
AreEqualByTargets [] [] = Unit {0}
AreEqualByTargets [] (other ∷ others) = ⊥
AreEqualByTargets (op ∷ ops) [] = ⊥
AreEqualByTargets (op ∷ ops) (other ∷ others) = EqualByTargets op other × AreEqualByTargets ops others

-- The bytes from this offset encode operators that equal these by targets.
abbrev pub EncodesByTargets : WasmFeatures → ℕ → List ℕ → List Operator → Type 0
EncodesByTargets f offset text ops = (others : List Operator) × AreEqualByTargets ops others × EncodesOperators f offset text others

-- Encodings of operators that equal these by targets were appended. At any offset, none are shorter.
pub record AppendsByTargets (f : WasmFeatures) (ops : List Operator) (old new : List ℕ) : Type 0 where
  pub text : List ℕ
  pub appended : new ≡ old ++ text
  pub encodes : (offset : ℕ) → EncodesByTargets f offset text ops
  pub shortest : (offset : ℕ) (other : List ℕ) → EncodesByTargets f offset other ops → length text ≤ length other

-- On `Ok`, the operators were appended. On `Err`, nothing was appended, and unless the vector can't
-- grow, one of the operators has no encoding.
abbrev pub WritesByTargets : {Y : Type 0} → WasmFeatures → List Operator → Result Y Unwritable → List ℕ → List ℕ → Type 0
WritesByTargets f ops (Ok _) old new = AppendsByTargets f ops old new
WritesByTargets f ops (Err e) old new = (new ≡ old) × (e ≢ why.OutOfMemory → HasUnwritable f ops e)

-- The declarations of locals and then the operators of a body were appended.
pub record AppendsBodyByTargets (f : WasmFeatures) (ds : List Declaration) (ops : List Operator) (old new : List ℕ) : Type 0 where
  pub mid : List ℕ
  pub locals : Appends EncodesLocals ds old mid
  pub expression : AppendsByTargets f ops mid new

-- On `Ok`, the body was appended. On `Err`, nothing was appended, and unless the vector can't grow,
-- the declarations are too many or an operator has no encoding.
abbrev pub WritesBodyByTargets : {Y : Type 0} → WasmFeatures → List Declaration → List Operator → Result Y Unwritable → List ℕ → List ℕ → Type 0
WritesBodyByTargets f ds ops (Ok _) old new = AppendsBodyByTargets f ds ops old new
WritesBodyByTargets f ds ops (Err e) old new = (new ≡ old) × (e ≢ why.OutOfMemory → ((e ≡ why.TooMany) × (2 ^ 32 ≤ length ds)) ⊎ HasUnwritable f ops e)
