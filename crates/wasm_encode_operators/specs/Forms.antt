-- The common forms of operators.
use Rattle.std.specs.Prelude.{◌≡◌, ℕ, ◌<◌, ◌≤◌, ◌^◌, List, [], ◌∷◌, None}
use Rattle.wasm_below.specs.declared.features.WasmFeatures.{WasmFeatures}
use Rattle.wasm_imm.specs.declared.memory_argument.MemArg.{MemArg}
use Rattle.wasm_imm.specs.declared.memory_argument.MemArgTarget.TheVariants as target
use Rattle.wasm_imm.specs.declared.memory_argument.MemArgKind.TheVariants as kind
use Rattle.wasm_imm.specs.Immediate.{Immediate, unsigned_32, signed_32, signed_64, memory_argument, block_type}
use Rattle.wasm_instr.specs.declared.operator.Operator.{Operator}
use Rattle.wasm_instr.specs.Encoding.{IsEnabled}
use Rattle.wasm_instr.specs.Row.{prefix_of, opcode_of, immediates_of}
use Rattle.wasm_encode_operators.specs.declared.common.Form.{Form}
use Rattle.wasm_encode_operators.specs.declared.common.Form.TheVariants as form

-- The operator needs no feature. It has this opcode, without a prefix, and these immediates.
abbrev pub IsCommon : Operator → ℕ → List Immediate → Type 0
IsCommon op code is = (prefix_of op ≡ None) × (opcode_of op ≡ code) × (immediates_of op ≡ is) × ((f : WasmFeatures) → IsEnabled f op)

-- The opcode and immediates of an operator in the type of the encoder.
abbrev pub IsForm : Operator → Form → Type 0
IsForm op (form.Byte code) = IsCommon op code []
IsForm op (form.Unsigned code n) = IsCommon op code (unsigned_32 n ∷ [])
IsForm op (form.Signed32 code n) = IsCommon op code (signed_32 n ∷ [])
IsForm op (form.Signed64 code n) = IsCommon op code (signed_64 n ∷ [])
IsForm op (form.Block code t) = IsCommon op code (block_type t ∷ [])
IsForm op (form.Access code m natural) = IsCommon op code (memory_argument kind.Plain natural m ∷ [])
IsForm op form.Other = Unit {0}

-- The memory argument has its natural alignment, memory 0, no ordering, and an offset of 32 bits.
pub record IsPlain (natural : ℕ) (m : MemArg) : Type 0 where
  pub align : m.align ≤ 15
  pub max_align : m.max_align ≡ natural
  pub target : m.target ≡ target.Memory 0
  pub ordering : m.ordering ≡ None
  pub offset : m.offset < 2 ^ 32
