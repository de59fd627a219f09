-- The shortest encoding of a memory argument.
-- Specification: Binary Format, Instructions, Memory Instructions; multi-memory, multibyte array access,
-- acquire-release atomics.
use Rattle.std.specs.Prelude.{◌≡◌, ℕ, ◌+◌, ◌<◌, ◌≤◌, ◌^◌, ◌⊎◌, List, [], ◌∷◌, ◌++◌, Option, Some, None, cond, eqb}
use Rattle.wasm_below.specs.declared.features.WasmFeatures.{WasmFeatures}
use Rattle.wasm_below.specs.Features.{HasFeature, multi_memory, memory64, acquire_release_atomics, multibyte_array_access}
use Rattle.wasm_encode_numbers.specs.Shortest.{unsigned_bytes}
use Rattle.wasm_imm.specs.declared.memory_argument.MemArg.{MemArg}
use Rattle.wasm_imm.specs.declared.memory_argument.MemArgTarget.{MemArgTarget}
use Rattle.wasm_imm.specs.declared.memory_argument.MemArgTarget.TheVariants as target
use Rattle.wasm_imm.specs.declared.memory_argument.MemArgOrdering.{MemArgOrdering}
use Rattle.wasm_imm.specs.declared.memory_argument.MemArgOrdering.TheVariants as ordering
use Rattle.wasm_imm.specs.declared.memory_argument.MemArgKind.{MemArgKind}
use Rattle.wasm_imm.specs.MemoryArgument.{ordering_byte, rmw_byte}
use Rattle.wasm_encode_immediates.specs.Reasons.{IsOfKind}

-- The flag of an index. Memory 0 needs none.
abbrev pub target_part : MemArgTarget → ℕ
target_part (target.Memory i) = cond (eqb i 0) 0 64
target_part (target.Array i) = 32

-- The index that follows the flags, if any.
abbrev pub target_bytes : MemArgTarget → List ℕ
target_bytes (target.Memory i) = cond (eqb i 0) [] (unsigned_bytes i)
target_bytes (target.Array i) = unsigned_bytes i

-- The flag of an ordering.
abbrev pub ordering_part : Option MemArgOrdering → ℕ
ordering_part None = 0
ordering_part (Some o) = 16

-- The byte of an ordering, if any.
abbrev pub ordering_bytes : Option MemArgOrdering → List ℕ
ordering_bytes None = []
ordering_bytes (Some (ordering.Op o)) = ordering_byte o ∷ []
ordering_bytes (Some (ordering.Rmw o)) = rmw_byte o ∷ []

-- The shortest encoding of a memory argument that has one.
abbrev pub memory_argument_bytes : MemArg → List ℕ
memory_argument_bytes m = (m.align + ordering_part m.ordering + target_part m.target) ∷ (target_bytes m.target ++ (ordering_bytes m.ordering ++ unsigned_bytes m.offset))

-- The target's index has 32 bits, and its feature is on.
abbrev pub IsTargetWritable : WasmFeatures → MemArgTarget → Type 0
IsTargetWritable f (target.Memory i) = (i < 2 ^ 32) × ((i ≡ 0) ⊎ HasFeature multi_memory f)
IsTargetWritable f (target.Array i) = (i < 2 ^ 32) × HasFeature multibyte_array_access f

-- The ordering, if any, is of the operator's kind, and its feature is on.
abbrev pub IsOrderingWritable : WasmFeatures → MemArgKind → Option MemArgOrdering → Type 0
IsOrderingWritable f k None = Unit {0}
IsOrderingWritable f k (Some o) = HasFeature acquire_release_atomics f × IsOfKind k o

-- The memory argument has an encoding in an operator of this kind and natural alignment.
pub record IsWritable (f : WasmFeatures) (k : MemArgKind) (max : ℕ) (m : MemArg) : Type 0 where
  pub align : m.align ≤ 15
  pub natural : m.max_align ≡ max
  pub target : IsTargetWritable f m.target
  pub ordering : IsOrderingWritable f k m.ordering
  pub small : m.offset < 2 ^ 64
  pub offset : (m.offset < 2 ^ 32) ⊎ HasFeature memory64 f
