-- Specification: Binary Format, Instructions.
use Rattle.std.specs.Prelude.{◌≡◌, ℕ, ◌+◌, ◌-◌, ◌^◌, ◌<◌, ◌≤◌, List, ◌++◌, length, Option, Some, None, Result, Ok, Err, ◌⊎◌}
use Rattle.wasm_operators.specs.below.declared.error.Error.{Error}
use Rattle.wasm_operators.specs.below.Features.{features_of}
use Rattle.wasm_operators.specs.below.Source.{Reader, reader_of, at_position, rest}
use Rattle.wasm_operators.specs.grammar.declared.frame_kind.FrameKind.TheVariants as frame
use Rattle.wasm_operators.specs.instr.declared.operator.Operator.{Operator}
use Rattle.wasm_operators.specs.instr.Encoding.{EncodesOperator}
use Rattle.wasm_operators.specs.opcodes.Allowed.{EncodesAllowed}
use Rattle.wasm_operators.specs.opcodes.Decoding.{DecodesOperator}
use Rattle.wasm_operators.specs.opcodes.OperatorFaults.{OperatorFault}
use Rattle.wasm_view.specs.Lists.{PlacesMembers}
use Rattle.wasm_c.specs.declared.refusal.WasmRefusal.{WasmRefusal}
use Rattle.wasm_c.specs.Reads.{IsWithin}
use Rattle.wasm_c.specs.Refused.{no_refusal, refusal_of, misuse}

-- A reader of the bytes from the offset `at` on, if the first has the offset `offset`.
abbrev pub reader_from : List ℕ → ℕ → ℕ → ℕ → Reader
reader_from bytes offset features at = at_position (reader_of (features_of features) offset bytes) (at - offset)

-- The operator is encoded here.
abbrev pub OccursThere : Reader → Operator → Type 0
OccursThere input op = (text more : List ℕ) × (rest input ≡ text ++ more) × EncodesOperator input.features text op

-- Reading an operator here, inside a block, fails.
abbrev pub RefusesThere : WasmRefusal → Reader → Type 0
RefusesThere r input =
    (e : Error) × (r ≡ refusal_of e) × DecodesOperator (EncodesAllowed input.features frame.Block) (OperatorFault input.features frame.Block) (Err e) input input

-- Neither the count nor the array changes.
abbrev pub Unchanged : {X : Type 0} → ℕ → ℕ → List X → List X → Type 0
Unchanged count_old count_new old new = (count_new ≡ count_old) × (new ≡ old)

abbrev pub ReturnsThere : Result Operator WasmRefusal → Reader → Type 0
ReturnsThere (Ok op) input = OccursThere input op
ReturnsThere (Err r) input = RefusesThere r input

-- The result of a call at an offset: misuse, or what `There` says of the bytes from the offset on. The offset may be the end.
pub record AtOffset (IsMisuse : ℕ → ℕ → Type 0) (There : Reader → Type 0) (bytes : List ℕ) (offset features at : ℕ) : Type 0 where
  pub unknown : 64 ≤ features → IsMisuse 100 offset
  pub past : features < 64 → 2 ^ 64 ≤ offset + length bytes → IsMisuse 101 offset
  pub before : features < 64 → IsWithin offset bytes → at < offset → IsMisuse 104 at
  pub after : features < 64 → IsWithin offset bytes → offset + length bytes < at → IsMisuse 104 at
  pub there : features < 64 → IsWithin offset bytes → offset ≤ at → at ≤ offset + length bytes → There (reader_from bytes offset features at)

-- The operator at the offset, or why there is none.
abbrev pub ReadsAt : Result Operator WasmRefusal → List ℕ → ℕ → ℕ → ℕ → Type 0
ReadsAt result bytes offset features at = AtOffset (λ number place. result ≡ Err (misuse number place)) (ReturnsThere result) bytes offset features at

-- The members of a list from `index` on are placed; without a list, the error is 104.
abbrev pub ReportsMembers : {X : Type 0} → Option (List X) → WasmRefusal → ℕ → ℕ → ℕ → ℕ → List X → List X → Type 0
ReportsMembers None r at index count_old count_new old new = (r ≡ misuse 104 at) × Unchanged count_old count_new old new
ReportsMembers (Some members) r at index count_old count_new old new = (r ≡ no_refusal at) × PlacesMembers members index old count_new new

-- As `ReportsMembers`, for the operator that is encoded here, or the error of reading one.
abbrev pub FindsMembers : {X : Type 0} → (Operator → Option (List X)) → WasmRefusal → Reader → ℕ → ℕ → ℕ → ℕ → List X → List X → Type 0
FindsMembers members_of r input at index count_old count_new old new =
    ((op : Operator) × OccursThere input op × ReportsMembers (members_of op) r at index count_old count_new old new)
    ⊎ (RefusesThere r input × Unchanged count_old count_new old new)

-- A call for the list of the operator at an offset.
abbrev pub ReturnsList : {X : Type 0} → (Operator → Option (List X)) → WasmRefusal → List ℕ → ℕ → ℕ → ℕ → ℕ → ℕ → ℕ → List X → List X → Type 0
ReturnsList members_of r bytes offset features at index count_old count_new old new =
    AtOffset (λ number place. (r ≡ misuse number place) × Unchanged count_old count_new old new)
    (λ input. FindsMembers members_of r input at index count_old count_new old new) bytes offset features at
