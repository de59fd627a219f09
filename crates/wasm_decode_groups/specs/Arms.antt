use Rattle.std.specs.Prelude.{◌≡◌, ℕ, ◌<◌, List, Option, Some, None, Result}
use Rattle.wasm_below.specs.declared.error.Error.{Error}
use Rattle.wasm_below.specs.Source.{Reader}
use Rattle.wasm_grammar.specs.declared.frame_kind.FrameKind.{FrameKind}
use Rattle.wasm_instr.specs.declared.operator.Operator.{Operator}
use Rattle.wasm_imm.specs.Immediate.{Immediate, Kind}
use Rattle.wasm_instr.specs.Row.{prefix_of, opcode_of, immediates_of}
use Rattle.wasm_decode_opcodes.specs.Decoding.{DecodesAt}
use Rattle.wasm_decode_opcodes.specs.Entry.{prefixes, free, entry_kinds}
use Rattle.wasm_decode_opcodes.specs.Entries.{entry_at, align_at}

-- A byte, or any code after a prefix byte.
abbrev pub IsCodeAfter : Option ℕ → ℕ → Type 0
IsCodeAfter None code = code < 256
IsCodeAfter (Some prefix) code = (entry_at None prefix ≡ prefixes) × (prefix < 256)

-- The code has these kinds, no guard, and this natural alignment.
abbrev pub HasArm : Option ℕ → ℕ → List Kind → ℕ → Type 0
HasArm prefix code ks bound = (entry_at prefix code ≡ free ks) × (bound ≡ align_at prefix code)

-- The code has these kinds at its natural alignment.
abbrev pub HasKindsAt : Option ℕ → ℕ → (ℕ → List Kind) → Type 0
HasKindsAt prefix code kinds = entry_kinds (entry_at prefix code) ≡ Some (kinds (align_at prefix code))

-- The operator has this code and these immediates.
abbrev pub IsRow : Option ℕ → ℕ → List Immediate → Operator → Type 0
IsRow prefix code is op = (prefix_of op ≡ prefix) × (opcode_of op ≡ code) × (immediates_of op ≡ is)

-- As `DecodesAt`, for a call that returns the operator.
abbrev pub ReadsOperatorAt : {A : Type 0} → (A → Operator) → FrameKind → ℕ → Result A Error → Reader → Reader → Type 0
ReadsOperatorAt {A} whole frame start result old new = DecodesAt {V = Unit {0}} {A = A} (λ v op outcome w. op ≡ whole outcome) frame start result old new tt tt
