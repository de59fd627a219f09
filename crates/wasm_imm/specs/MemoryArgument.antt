-- Specification: Binary Format, Memory Instructions. Bit 6 belongs to the proposal multi-memory,
-- bit 5 to multibyte array access, bit 4 to acquire-release atomics.
use Rattle.std.specs.Prelude.{◌≡◌, ℕ, ◌+◌, ◌≤◌, ◌⊎◌, List, [], ◌∷◌, ◌++◌, Option, Some, None}
use Rattle.wasm_below.specs.declared.features.WasmFeatures.{WasmFeatures}
use Rattle.wasm_below.specs.Features.{HasFeature, multi_memory, memory64, acquire_release_atomics, multibyte_array_access}
use Rattle.wasm_below.specs.Number.{EncodesUnsigned}
use Rattle.wasm_below.specs.Sequence.{Then}
use Rattle.wasm_imm.specs.declared.memory_argument.MemArg.{MemArg}
use Rattle.wasm_imm.specs.declared.memory_argument.MemArgTarget.{MemArgTarget}
use Rattle.wasm_imm.specs.declared.memory_argument.MemArgTarget.TheVariants as target
use Rattle.wasm_imm.specs.declared.memory_argument.MemArgOrdering.{MemArgOrdering}
use Rattle.wasm_imm.specs.declared.memory_argument.MemArgOrdering.TheVariants as ordering
use Rattle.wasm_imm.specs.declared.memory_argument.MemArgKind.{MemArgKind}
use Rattle.wasm_imm.specs.declared.memory_argument.MemArgKind.TheVariants as kind
use Rattle.wasm_imm.specs.declared.ordering.Ordering.{Ordering}
use Rattle.wasm_imm.specs.declared.ordering.Ordering.TheVariants.{AcqRel, SeqCst}

-- The byte of an ordering, alone and in the argument of a load or a store.
abbrev pub ordering_byte : Ordering → ℕ
ordering_byte SeqCst = 0x00
ordering_byte AcqRel = 0x01

-- The low four bits are for the read, the high four for the write.
abbrev pub rmw_byte : Ordering → ℕ
rmw_byte SeqCst = 0x00
rmw_byte AcqRel = 0x11

-- The byte of an ordering in an argument of this kind.
abbrev pub IsOrderingByte : MemArgKind → ℕ → MemArgOrdering → Type 0
IsOrderingByte k byte (ordering.Op o) = (k ≡ kind.Op) × (byte ≡ ordering_byte o)
IsOrderingByte k byte (ordering.Rmw o) = (k ≡ kind.Rmw) × (byte ≡ rmw_byte o)

-- What a target adds to the flags number, and its index, which memory 0 may lack.
abbrev pub EncodesTarget : WasmFeatures → ℕ → List ℕ → MemArgTarget → Type 0
EncodesTarget f part text (target.Array i) = HasFeature multibyte_array_access f × (part ≡ 32) × EncodesUnsigned 32 text i
EncodesTarget f part text (target.Memory i) = (HasFeature multi_memory f × (part ≡ 64) × EncodesUnsigned 32 text i) ⊎ ((part ≡ 0) × (text ≡ []) × (i ≡ 0))

-- What an ordering adds to the flags number, and its byte.
abbrev pub EncodesOrdering : WasmFeatures → MemArgKind → ℕ → List ℕ → Option MemArgOrdering → Type 0
EncodesOrdering f k part text None = (part ≡ 0) × (text ≡ [])
EncodesOrdering f k part text (Some o) = HasFeature acquire_release_atomics f × (part ≡ 16) × (byte : ℕ) × (text ≡ byte ∷ []) × IsOrderingByte k byte o

-- A u64 with memory64, a u32 without it.
abbrev pub EncodesOffset : WasmFeatures → List ℕ → ℕ → Type 0
EncodesOffset f text n = (HasFeature memory64 f × EncodesUnsigned 64 text n) ⊎ (¬ HasFeature memory64 f × EncodesUnsigned 32 text n)

-- What follows the flags number, which is the sum of alignment, ordering and target.
pub record EncodesAfterFlags (f : WasmFeatures) (k : MemArgKind) (max : ℕ) (flags : ℕ) (text : List ℕ) (m : MemArg) : Type 0 where
  pub of_ordering : ℕ
  pub of_target : ℕ
  pub index : List ℕ
  pub byte : List ℕ
  pub after : List ℕ
  pub sum : flags ≡ m.align + of_ordering + of_target
  pub parts : text ≡ index ++ (byte ++ after)
  pub align : m.align ≤ 15
  pub max_align : m.max_align ≡ max
  pub target : EncodesTarget f of_target index m.target
  pub ordering : EncodesOrdering f k of_ordering byte m.ordering
  pub offset : EncodesOffset f after m.offset

-- A memory argument of an operator of this kind with the natural alignment 2^`max`.
--   memarg ::= n:u32 m:u64 ⇒ (0, {align n, offset m}), if n < 2^6  |  n:u32 x:memidx m:u64 ⇒ (x, {align n - 2^6, offset m}), if 2^6 ≤ n < 2^7
abbrev pub EncodesMemArg : WasmFeatures → MemArgKind → ℕ → List ℕ → MemArg → Type 0
EncodesMemArg f k max = Then (EncodesUnsigned 32) (EncodesAfterFlags f k max)
